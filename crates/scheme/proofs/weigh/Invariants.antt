use Rattle.std.proofs.Common.{◌≡◌, ◌+◌, ◌*◌, ◌≤◌, drop}
use Rattle.rulebook.specs.Schemes.{weighted_sum, first_unlawful}
use Rattle.scheme.proofs.weigh.Given as goal

abbrev pub invariant-loop-i : goal.invariant-loop-i
invariant-loop-i g l =
    let s = g.S.CheckScheme.rules in
    (l.sum + weighted_sum s l.i (drop l.i l.text) ≡ weighted_sum s 0 l.text)
    × (first_unlawful s l.i (drop l.i l.text) ≡ first_unlawful s 0 l.text)
    × (l.sum ≤ 65025 * l.i)
    × (l.i ≤ s.places)
