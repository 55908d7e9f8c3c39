use Rattle.fields.proofs.Same.{kept_alike}
use Rattle.std.proofs.Common.{refl}
use Rattle.fields.proofs.names.LawfulClone.clone.Goals as goal

pub returns : goal.returns
returns g c = record { cases = kept_alike _ _ refl }
