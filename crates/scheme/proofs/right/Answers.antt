use Rattle.std.proofs.Common.{rules, ◌≡◌, ◌∙◌}
use Rattle.rulebook.specs.Schemes.{is_right}
use Rattle.rulebook.proofs.Catching.{catches_one}
use Rattle.scheme.proofs.right.Goals as goal

pub returns-then-text-places-clause-catches : goal.returns-then-text-places-clause-catches
returns-then-text-places-clause-catches g c =
    let s = g.S.CheckScheme.rules in
    let m = g.met.S.CheckScheme in
    let t = c.args.text.now in
    let decides : is_right s t ≡ c.is_ok_and.result = search rules in
    λ e. catches_one s m.below m.distinct m.telling t (decides ∙ e)
