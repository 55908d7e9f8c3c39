use Rattle.std.proofs.Common.{◌≡◌, true, min, Ok, ap, sym}
use Rattle.rulebook.specs.Fields.{is_number}
use Rattle.fields.proofs.Decimals.{numbered}
use Rattle.fields.proofs.numbers.reading.NumberTryFromRefSliceU8.try_from.Goals as goal

pub value_of-requires : goal.value_of-requires
value_of-requires g c =
    let n = numbered g.row.DIGITS c.min.result c.args.text.now c.min.ensures c.if-not-is_number.ensures in
    record { written = n.digits; fits = n.fits }

pub invariant_of-result : goal.invariant_of-result
invariant_of-result g c =
    let n = numbered g.row.DIGITS c.min.result c.args.text.now c.min.ensures c.if-not-is_number.ensures in
    record { positive = rw c.value_of.ensures n.positive; small = rw c.value_of.ensures n.small }

pub returns : goal.returns
returns g c =
    let n = numbered g.row.DIGITS c.min.result c.args.text.now c.min.ensures c.if-not-is_number.ensures in
    let held : is_number (min g.row.DIGITS 19) c.args.text.now ≡ true = sym (rw c.min.ensures at c.if-not-is_number.ensures) in
    rw held (ap Ok (rw c.value_of.ensures n.text))
