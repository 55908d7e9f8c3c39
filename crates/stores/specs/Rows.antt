-- Rows of which the first n hold a store's records.
-- A reader has to believe: further rows are no part of the store, and it uses 4,096 rows at most.
use Rattle.std.specs.Prelude.{◌≡◌, ℕ, ◌+◌, ◌-◌, Bool, cond, List, length, take, nat_lt}
use Rattle.rulebook.specs.Records.{Entry}
use Rattle.rulebook.specs.Entries.{is_held}
use Rattle.rulebook.specs.Stores.{limit, is_accepted}
use Rattle.eic.specs.Views.{code_text}
use Rattle.records.specs.Views.{entry_of, entries_of}
use Rattle.records.specs.declared.Record.{Record}

abbrev pub held_in : ℕ → List Record → List Entry
held_in n rows = entries_of (take n rows)

abbrev pub room_in : ℕ → List Record → ℕ
room_in n rows = limit (length rows) - n

-- by what a write of r meets: its code in the rows, or a row that is free, or neither
abbrev pub by_case : {X : Type 0} → Record → ℕ → List Record → X → X → X → X
by_case r n rows same new full = cond (is_held (code_text r.code) (held_in n rows)) same (cond (nat_lt n (limit (length rows))) new full)

abbrev pub used_after : Record → ℕ → List Record → ℕ
used_after r n rows = by_case r n rows n (n + 1) n

-- what a write of r answers, and the rows after it, which are those of `after`
pub record Puts (after : List Record) (r : Record) (n : ℕ) (xs : List Record) (accepted : Bool) (n' : ℕ) (ys : List Record) : Type 0 where
  pub told : accepted ≡ is_accepted (entry_of r) (held_in n xs) (room_in n xs)
  pub used : n' ≡ used_after r n xs
  pub rows : ys ≡ after
