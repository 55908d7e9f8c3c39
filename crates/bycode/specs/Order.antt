-- Rows in ascending order of their codes, byte by byte, and what a write does to them.
-- A reader has to believe: a record is kept before the first record whose code does not stand before its own.
use Rattle.std.specs.Prelude.{ℕ, suc, Bool, true, cond, ◌&&◌, List, [], ◌∷◌, Ok, Err, Result, slice_set}
use Rattle.rulebook.specs.Texts.{Text, precedes}
use Rattle.rulebook.specs.Records.{Entry}
use Rattle.rulebook.specs.Entries.{is_held}
use Rattle.eic.specs.Views.{code_text}
use Rattle.records.specs.declared.Record.{Record}
use Rattle.stores.specs.Moves.{opened}
use Rattle.stores.specs.Rows.{held_in, by_case}

-- every code stands after c
abbrev pub is_after : Text → List Entry → Bool
is_after c [] = true
is_after c (e ∷ es) = precedes c e.code && is_after c es

abbrev pub is_ascending : List Entry → Bool
is_ascending [] = true
is_ascending (e ∷ es) = is_after e.code es && is_ascending es

-- how many records stand before the code c
abbrev pub slot : Text → List Entry → ℕ
slot c [] = 0
slot c (e ∷ es) = cond (precedes e.code c) (suc (slot c es)) 0

-- where the code c stands or, where it is not held, would stand
abbrev pub located : Text → List Entry → Result ℕ ℕ
located c es = cond (is_held c es) (Ok (slot c es)) (Err (slot c es))

abbrev pub slot_in : Record → ℕ → List Record → ℕ
slot_in r n rows = slot (code_text r.code) (held_in n rows)

-- the rows after a write
abbrev pub rows_after : Record → ℕ → List Record → List Record
rows_after r n rows = by_case r n rows (slice_set rows (slot_in r n rows) r) (opened rows (slot_in r n rows) n r) rows
