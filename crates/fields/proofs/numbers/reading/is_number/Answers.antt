use Rattle.std.proofs.Common.{rules, sym}
use Rattle.rulebook.specs.Codes.{is_digit}
use Rattle.fields.proofs.Passes.{up_to_some}
use Rattle.fields.proofs.numbers.reading.is_number.Goals as goal

pub bounds-text-0 : goal.bounds-text-0
bounds-text-0 c = up_to_some c.args.most is_digit c.args.text.now (sym (c.if-is_up_to.ensures is_digit (search rules)))
