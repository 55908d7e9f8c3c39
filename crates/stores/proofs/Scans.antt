-- A scan of a store's records for one that passes a test. Assumes nothing.
use Rattle.std.proofs.Common.{◌≡◌, ℕ, ◌+◌, ◌<◌, Bool, true, false, List, length, get_or, drop, Option, unwrap_or, sym, ap, ◌∙◌}
use Rattle.rulebook.specs.Records.{Entry}
use Rattle.rulebook.specs.Entries.{nth, any}
use Rattle.rulebook.proofs.Entries.{nth_some, any_hit, any_miss}
use Rattle.records.specs.Views.{entry_of}
use Rattle.records.specs.declared.Record.{Record}
use Rattle.stores.specs.Reads.{Reads}

-- the k-th record, read into the caller's
module _ (p : Entry → Bool) (es : List Entry) (k : ℕ) (h : k < length es) (before after : Record) (there : Bool) (reads : Reads (nth k es) before there after) where
  read_is : get_or es k (entry_of before) ≡ entry_of after
  read_is = sym (reads.shown ∙ ap (λ (o : Option Entry). unwrap_or o (entry_of before)) (nth_some es k (entry_of before) h))

  pub scan_hit : true ≡ p (entry_of after) → any p (drop k es) ≡ true
  scan_hit e = any_hit p es k (entry_of before) h (ap p read_is ∙ sym e)

  pub scan_miss : false ≡ p (entry_of after) → any p (drop k es) ≡ any p (drop (k + 1) es)
  scan_miss e = any_miss p es k (entry_of before) h (ap p read_is ∙ sym e)
