use Rattle.std.proofs.Common.{arith}
use Rattle.fields.proofs.Decimals.{next_digit}
use Rattle.fields.proofs.numbers.reading.value_of.Goals as goal

pub overflow_mul-n : goal.overflow_mul-n
overflow_mul-n c = let d = next_digit c.args.digits.now c.loop-byte.byte-index c.requires.written (omega arith) in omega arith

pub overflow_sub-n : goal.overflow_sub-n
overflow_sub-n c = let d = next_digit c.args.digits.now c.loop-byte.byte-index c.requires.written (omega arith) in omega arith

pub overflow_add-n : goal.overflow_add-n
overflow_add-n c = let d = next_digit c.args.digits.now c.loop-byte.byte-index c.requires.written (omega arith) in omega arith

pub loop-byte-preserved : goal.loop-byte-preserved
loop-byte-preserved c = let d = next_digit c.args.digits.now c.loop-byte.byte-index c.requires.written (omega arith) in omega arith
