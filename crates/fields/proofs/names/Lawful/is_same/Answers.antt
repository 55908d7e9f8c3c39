use Rattle.std.proofs.Common.{◌∙◌}
use Rattle.fields.proofs.Same.{lawful_eq}
use Rattle.fields.proofs.names.Lawful.is_same.Goals as goal

pub returns : goal.returns
returns g c = c.eq.ensures ∙ lawful_eq c.args.self.now c.args.other.now
