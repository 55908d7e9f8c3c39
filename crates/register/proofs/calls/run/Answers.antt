use Rattle.std.proofs.Common.{◌≡◌, ◌+◌, ◌<◌, length, get_or, ◌∙◌, arith}
use Rattle.std.proofs.Math.Seq.{map-set_same}
use Rattle.std.proofs.lemmas.List.{drop_more, drop-set-lt}
use Rattle.std.proofs.lemmas.Grind.{common_steps}
use Rattle.rulebook.specs.Histories.{Reached}
use Rattle.rulebook.proofs.Lasts.{lasting}
use Rattle.eic.specs.Views.{office_text}
use Rattle.register.specs.Calls.{asked_by, history_of}
use Rattle.register.specs.Views.{state_of, state_with}
use Rattle.register.proofs.Runs.{history_more}
use Rattle.register.proofs.calls.run.Goals as goal

pub loop-call-preserved : goal.loop-call-preserved
loop-call-preserved g c =
    let bs = c.args.calls.now in
    let cs = c.loop-call.calls in
    let i = c.loop-call.call-index in
    let old = c.call-item.result in
    let new = c.make_call.new.call in
    let lt : i < length bs = omega arith in
    let inv = c.loop-call.invariant in
    let at_bs = drop_more bs i old lt in
    let at_cs = drop_more cs i old (omega arith) in
    let behind = drop-set-lt (i + 1) cs i new (omega arith) in
    let same : get_or cs i old ≡ get_or bs i old = cc in
    let e = c.make_call.ensures in
    record {
      asked = map-set_same asked_by cs i new old e.asked ∙ inv.asked;
      rest = cc;
      reached = rw (history_more bs cs i new old c.loop-call.auto.calls lt, ← same) (e.carries _ _ inv.reached).0;
    }

pub returns-clause-lasting : goal.returns-clause-lasting
returns-clause-lasting g c =
    let reached : Reached (state_with g.S.Store (office_text c.args.office) c.args.store) (history_of c.args.calls.now c.loop-call.calls) (state_of g.S.Store c.loop-call.register) = grind (arith, common_steps) in
    λ none. lasting none reached
