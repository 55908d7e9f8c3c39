use Rattle.std.proofs.Common.{arith}
use Rattle.std.proofs.lemmas.Fmt.{decimal_digit}
use Rattle.fields.proofs.numbers.Number.first.Goals as goal

pub returns : goal.returns
returns g c = decimal_digit 1 (omega arith)
