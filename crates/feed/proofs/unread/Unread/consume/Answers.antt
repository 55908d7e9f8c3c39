use Rattle.std.proofs.Common.{◌≡◌, ◌+◌, ◌-◌, ◌≤◌, length, drop, slice_range, ap, ◌∙◌, arith}
use Rattle.std.proofs.lemmas.List.{length-take-le, length-drop}
use Rattle.feed.proofs.Fronts.{part_left}
use Rattle.feed.proofs.unread.Unread.consume.Goals as goal

pub returns : goal.returns
returns c =
    let u = c.self.inside in
    let long : length (slice_range u.bytes u.from u.to) ≡ u.to - u.from = length-take-le _ _ (omega (arith, length-drop u.from u.bytes, c.self.invariant)) in
    let within : u.from + c.args.n ≤ u.to = omega (arith, long, ap length c.self.view_is, c.self.invariant) in
    part_left u.bytes u.from u.to c.args.n within ∙ ap (drop c.args.n) c.self.view_is
