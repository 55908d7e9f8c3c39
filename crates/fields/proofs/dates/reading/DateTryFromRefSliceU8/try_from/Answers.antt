use Rattle.std.proofs.Common.{sym}
use Rattle.fields.proofs.Days.{date_read}
use Rattle.fields.proofs.dates.reading.DateTryFromRefSliceU8.try_from.Goals as goal

pub returns : goal.returns
returns c =
    let h = rw c.in_ok-year.ensures.ok_part at c.read_written.ensures in
    date_read c.args.text.now c.in_ok-year.field-0.year c.in_ok-year.field-0.month c.in_ok-year.field-0.day h.0 h.1 h.2 h.3 (sym c.if-not-is_day.ensures)
