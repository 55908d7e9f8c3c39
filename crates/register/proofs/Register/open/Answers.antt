use Rattle.rulebook.specs.Histories.{opened}
use Rattle.register.proofs.Register.open.Goals as goal

pub returns-clause-reached : goal.returns-clause-reached
returns-clause-reached g c = opened
