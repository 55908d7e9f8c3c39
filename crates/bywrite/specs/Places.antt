-- Rows in the order in which they were last written, and what a write does to them.
-- A reader has to believe: a record that is written goes to the end of the list, and the record that had its code leaves it.
use Rattle.std.specs.Prelude.{ℕ, suc, Bool, true, cond, not, ◌&&◌, List, [], ◌∷◌, length, Ok, Err, Result, slice_set}
use Rattle.std.specs.Str.{bytes_eq}
use Rattle.rulebook.specs.Texts.{Text}
use Rattle.rulebook.specs.Records.{Entry}
use Rattle.rulebook.specs.Entries.{is_held}
use Rattle.eic.specs.Views.{code_text}
use Rattle.records.specs.declared.Record.{Record}
use Rattle.stores.specs.Moves.{renewed}
use Rattle.stores.specs.Rows.{held_in, by_case}

-- no code stands twice
abbrev pub is_distinct : List Entry → Bool
is_distinct [] = true
is_distinct (e ∷ es) = not (is_held e.code es) && is_distinct es

-- how many records stand before the one with the code c, all of them where there is none
abbrev pub place : Text → List Entry → ℕ
place c [] = 0
place c (e ∷ es) = cond (bytes_eq e.code c) 0 (suc (place c es))

abbrev pub place_in : Record → ℕ → List Record → ℕ
place_in r n rows = place (code_text r.code) (held_in n rows)

-- where the code c stands or, where it is not held, would stand
abbrev pub located : Text → List Entry → Result ℕ ℕ
located c es = cond (is_held c es) (Ok (place c es)) (Err (length es))

-- the rows after a write
abbrev pub rows_after : Record → ℕ → List Record → List Record
rows_after r n rows = by_case r n rows (renewed rows (place_in r n rows) n r) (slice_set rows n r) rows
