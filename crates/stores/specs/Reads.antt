-- What a reading answers, and what the caller's record holds after it.
use Rattle.std.specs.Prelude.{◌≡◌, Bool, false, is_some, Option}
use Rattle.std.specs.Option.{unwrap_or}
use Rattle.rulebook.specs.Records.{Entry}
use Rattle.records.specs.Views.{entry_of}
use Rattle.records.specs.declared.Record.{Record}

-- the caller's record is filled with the record there or, with none there, left as it was
pub record Reads (there : Option Entry) (before : Record) (answer : Bool) (after : Record) : Type 0 where
  pub told : answer ≡ is_some there
  pub shown : entry_of after ≡ unwrap_or there (entry_of before)
  pub left : answer ≡ false → after ≡ before
