use Rattle.std.proofs.Common.{◌∙◌, arith}
use Rattle.fields.proofs.Days.{earlier_by_parts, few_days}
use Rattle.fields.proofs.dates.Date.is_before.Goals as goal

pub returns : goal.returns
returns c =
    let a = c.args.self.now in
    let b = c.args.other.now in
    let da = few_days a.year a.month in
    let db = few_days b.year b.month in
    c.lt.ensures ∙ earlier_by_parts a.year a.month a.day b.year b.month b.day (omega (arith, a.until)) (omega (arith, a.december)) (omega (arith, a.last)) (omega (arith, b.until)) (omega (arith, b.december)) (omega (arith, b.last))
