-- The records that rows hold, one by one, and what a reading of them answers. Assumes nothing.
use Rattle.std.proofs.Common.{◌≡◌, ℕ, ◌<◌, ◌≤◌, true, false, List, length, get_or, take, is_some, Some, None, Option, unwrap_or, sym, refl, ap, ◌∙◌, arith}
use Rattle.std.proofs.lemmas.List.{length-map, length-take-le, get_or-map}
use Rattle.std.proofs.lemmas.Bool.{true≢false}
use Rattle.rulebook.specs.Records.{Entry}
use Rattle.rulebook.specs.Entries.{nth}
use Rattle.rulebook.proofs.Entries.{nth_some, nth_none}
use Rattle.records.specs.Views.{entry_of, entries_of}
use Rattle.records.specs.declared.Record.{Record}
use Rattle.stores.specs.Reads.{Reads}
use Rattle.stores.specs.Rows.{held_in}

-- ---- what a reading answers
pub reads_there : (o : Option Entry) (before after : Record) → o ≡ Some (entry_of after) → Reads o before true after
reads_there o before after e =
    record { told = sym (ap is_some e); shown = sym (ap (λ (z : Option Entry). unwrap_or z (entry_of before)) e); left = λ q. absurd (true≢false q) }

pub reads_none : (o : Option Entry) (before : Record) → is_some o ≡ false → Reads o before false before
reads_none None before e = record { told = refl; shown = refl; left = λ _. refl }
reads_none (Some x) before e = absurd (true≢false e)

-- ---- rows of which the first n hold records
pub length_held : (n : ℕ) (xs : List Record) → n ≤ length xs → length (held_in n xs) ≡ n
length_held n xs h = length-map (take n xs) entry_of ∙ length-take-le n xs h

-- ---- rows that all hold records
module _ (xs : List Record) (k : ℕ) (before : Record) where
  pub reads_row : (d : Record) → k < length xs → Reads (nth k (entries_of xs)) before true (get_or xs k d)
  reads_row d lt =
      let l = length-map xs entry_of in
      reads_there (nth k (entries_of xs)) before (get_or xs k d) (nth_some (entries_of xs) k (entry_of d) (omega arith) ∙ ap Some (get_or-map entry_of xs k d (entry_of d) lt))

  pub reads_past : length xs ≤ k → Reads (nth k (entries_of xs)) before false before
  reads_past le = let l = length-map xs entry_of in reads_none (nth k (entries_of xs)) before (ap is_some (nth_none (entries_of xs) k (omega arith)))
