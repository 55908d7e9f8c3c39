-- What an order of records has to say: which records stand so, where a code is found in them, and what a write leaves.
use Rattle.std.specs.Prelude.{◌≡◌, ℕ, ◌+◌, ◌-◌, ◌<◌, ◌≤◌, Bool, true, false, List, [], length, Ok, Err, Result, slice_index_or}
use Rattle.std.specs.List.{insert}
use Rattle.rulebook.specs.Texts.{Text}
use Rattle.rulebook.specs.Records.{Entry}
use Rattle.rulebook.specs.Entries.{is_held, Apart}
use Rattle.rulebook.specs.Stores.{limit}
use Rattle.eic.specs.Views.{code_text}
use Rattle.records.specs.declared.Record.{Record}
use Rattle.stores.specs.Moves.{renewed, opened}
use Rattle.stores.specs.Rows.{held_in}

-- the code c stands at p
pub record Stands (c : Text) (es : List Entry) (p : ℕ) : Type 0 where
  pub inside : p < length es
  pub code : (d : Entry) → (slice_index_or es p d).code ≡ c

-- the code c is not held, and p is a place or the end
pub record Lacks (c : Text) (es : List Entry) (p : ℕ) : Type 0 where
  pub within : p ≤ length es
  pub unheld : is_held c es ≡ false

abbrev pub Locates : Text → List Entry → Result ℕ ℕ → Type 0
Locates c es (Ok p) = Stands c es p
Locates c es (Err p) = Lacks c es p

-- Records stand so where `stands` says; a code stands where `located` says or, as an error, a record with it is put there;
-- a changed record that stood at p is put at `rests p last`; `after` has every row after a write.
pub record IsOrder (stands : List Entry → Bool) (located : Text → List Entry → Result ℕ ℕ) (rests : ℕ → ℕ → ℕ) (after : Record → ℕ → List Record → List Record) : Type 0 where
  pub empty : stands [] ≡ true
  pub apart : (es : List Entry) → stands es ≡ true → Apart es
  pub locates : (c : Text) (es : List Entry) → stands es ≡ true → Locates c es (located c es)
  pub upward : (p last : ℕ) → p ≤ last → (p ≤ rests p last) × (rests p last ≤ last)
  -- a change of the record that stands at p, and a new record, leave records that stand so
  pub changed : (e : Entry) (es : List Entry) (p : ℕ) → stands es ≡ true → Stands e.code es p → stands (renewed es p (rests p (length es - 1) + 1) e) ≡ true
  pub added : (e : Entry) (es : List Entry) (p : ℕ) → stands es ≡ true → located e.code es ≡ Err p → stands (insert es p e) ≡ true
  -- the rows after a change, after a new record, and after a refusal
  pub rows_changed : (r : Record) (n : ℕ) (xs : List Record) (p : ℕ) → n ≤ length xs → p < n → located (code_text r.code) (held_in n xs) ≡ Ok p → renewed xs p (rests p (n - 1) + 1) r ≡ after r n xs
  pub rows_added : (r : Record) (n : ℕ) (xs : List Record) (p : ℕ) → n < limit (length xs) → located (code_text r.code) (held_in n xs) ≡ Err p → opened xs p n r ≡ after r n xs
  pub rows_refused : (r : Record) (n : ℕ) (xs : List Record) → limit (length xs) ≤ n → is_held (code_text r.code) (held_in n xs) ≡ false → xs ≡ after r n xs
