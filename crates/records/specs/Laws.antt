-- A record is told by its texts.
use Rattle.std.specs.Prelude.{◌≡◌}
use Rattle.records.specs.Views.{entry_of}
use Rattle.records.specs.declared.Record.{Record}

-- two records with the same texts are the same record
abbrev pub OneRecord : Type 0
OneRecord = (a b : Record) → entry_of a ≡ entry_of b → a ≡ b
