use Rattle.std.proofs.Common.{rules}
use Rattle.rulebook.proofs.Lasts.{look_carries}
use Rattle.register.proofs.Register.look_up.Goals as goal

pub returns-in_err-code-clause-carries : goal.returns-in_err-code-clause-carries
returns-in_err-code-clause-carries g c = look_carries _ _ _ _ _ (search rules)

pub returns-in_err-into-clause-carries : goal.returns-in_err-into-clause-carries
returns-in_err-into-clause-carries g c = look_carries _ _ _ _ _ (search rules)

pub returns-clause-carries : goal.returns-clause-carries
returns-clause-carries g c = look_carries _ _ _ _ _ (search rules)
