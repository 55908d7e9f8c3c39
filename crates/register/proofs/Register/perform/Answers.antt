use Rattle.decisions.specs.Views.{grant_of}
use Rattle.register.specs.Views.{state_of}
use Rattle.register.proofs.Carrying.{outcome_is}
use Rattle.register.proofs.Register.perform.Goals as goal

pub returns-clause-comes : goal.returns-clause-comes
returns-clause-comes g c =
    rw (← outcome_is (state_of g.S.Store c.args.self.now) c.args.line.now c.args.size (grant_of c.in_ok-grant.grant) c.if-size-lt200.false c.in_ok-grant.ensures.told) c.carry_out.ensures.comes
