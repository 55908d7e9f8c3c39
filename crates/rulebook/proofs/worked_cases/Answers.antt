use Rattle.std.proofs.Common.{refl}
use Rattle.rulebook.proofs.Worked.{all_settled}
use Rattle.rulebook.proofs.worked_cases.Goals as goal

pub returns : goal.returns
returns c = record { settled = all_settled; count = refl }
