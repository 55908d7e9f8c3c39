use Rattle.std.proofs.Common.{◌≡◌, [], map, take, drop}
use Rattle.rulebook.specs.Histories.{Reached}
use Rattle.register.specs.Calls.{asked_by, history_on}
use Rattle.register.specs.Views.{state_of}
use Rattle.register.proofs.calls.run.Given as goal

abbrev pub invariant-loop-call : goal.invariant-loop-call
invariant-loop-call g l =
    record {
      asked : map asked_by l.calls ≡ map asked_by l.initial.calls;
      rest : drop l.call-index l.calls ≡ drop l.call-index l.initial.calls;
      reached : Reached (state_of g.S.Store l.initial.register) (history_on [] (take l.call-index l.initial.calls) (take l.call-index l.calls)) (state_of g.S.Store l.register);
    }
