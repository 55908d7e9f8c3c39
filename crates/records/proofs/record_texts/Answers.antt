use Rattle.std.proofs.Common.{refl}
use Rattle.records.proofs.Same.{one_record}
use Rattle.records.proofs.record_texts.Goals as goal

pub returns : goal.returns
returns c = record { one = one_record; count = refl }
