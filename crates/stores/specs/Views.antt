-- The rows of a store over lent rows.
use Rattle.std.specs.Prelude.{ℕ, List}
use Rattle.records.specs.declared.Record.{Record}
use Rattle.stores.specs.declared.lent.Lent.{Lent}

abbrev pub rows_of : {O : Type 0} {o : _} → Lent O o → List Record
rows_of s = s.rows.rows.now

-- how many of them hold records
abbrev pub used_of : {O : Type 0} {o : _} → Lent O o → ℕ
used_of s = s.rows.used
