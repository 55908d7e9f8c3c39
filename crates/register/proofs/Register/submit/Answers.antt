use Rattle.std.proofs.Common.{Err, rules}
use Rattle.rulebook.proofs.Lasts.{line_carries}
use Rattle.register.specs.Views.{state_of}
use Rattle.register.proofs.Carrying.{answered}
use Rattle.register.proofs.Register.submit.Goals as goal

pub returns-in-Ok-clause-carries : goal.returns-in-Ok-clause-carries
returns-in-Ok-clause-carries g c = line_carries _ _ _ _ _ _ _ (search rules)

pub returns-in-Err : goal.returns-in-Err
returns-in-Err g c =
    let e = c.in-Err.ensures in
    let w = c.write_refusal in
    let a = answered (state_of g.S.Store c.args.self.now) (state_of g.S.Store c.perform.new.self) c.args.line.now c.args.buffer.now (Err c.in-Err.refusal) w.result w.new.buffer e.comes w.ensures.told w.ensures.filled in
    record { answered = a; refused = e.refused; carries = line_carries _ _ _ _ _ _ _ a }
