use Rattle.std.proofs.Common.{ap, ◌∙◌}
use Rattle.std.specs.Ordering.{is_lt}
use Rattle.eic.proofs.Order.{cmp_precedes}
use Rattle.eic.proofs.codes.Code.is_before.Goals as goal

pub returns : goal.returns
returns c = c.is_lt.ensures ∙ ap is_lt c.cmp.ensures ∙ cmp_precedes c.args.self.now.bytes c.args.other.now.bytes
