use Rattle.std.proofs.Common.{sym, ◌∙◌}
use Rattle.rulebook.proofs.Catching.{catches_misread}
use Rattle.scheme.proofs.right_paired.Goals as goal

pub returns-clause-catches : goal.returns-clause-catches
returns-clause-catches g c =
    let s = g.S.CheckScheme.rules in
    let m = g.met.S.CheckScheme in
    let p = g.met.S.PairScheme in
    λ e. catches_misread s m.below m.distinct p.prime m.telling p.differences p.sums c.args.text.now (sym c.right.ensures.decides ∙ e)
