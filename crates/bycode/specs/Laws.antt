-- Ascending order keeps what an order of records has to say.
use Rattle.std.specs.Prelude.{◌≡◌, ℕ, ◌+◌, ◌<◌, ◌≤◌, Bool, true, false, cond, List, length, Ok, Err, refl, slice_set}
use Rattle.std.specs.List.{insert}
use Rattle.std.proofs.Common.{set, ap, ◌∙◌, arith}
use Rattle.rulebook.specs.Texts.{Text}
use Rattle.rulebook.specs.Records.{Entry}
use Rattle.rulebook.specs.Entries.{is_held}
use Rattle.rulebook.specs.Stores.{limit}
use Rattle.eic.specs.Views.{code_text}
use Rattle.records.specs.declared.Record.{Record}
use Rattle.stores.specs.Moves.{renewed, opened}
use Rattle.stores.specs.Orders.{Stands, Locates, IsOrder}
use Rattle.stores.specs.Rows.{held_in}
use Rattle.stores.proofs.Keeping.{by_held, by_free, by_full, ok_is, err_is}
use Rattle.stores.proofs.Moving.{renewed_here}
use Rattle.bycode.specs.Apart.{ascending_apart}
use Rattle.bycode.specs.Order.{is_ascending, slot, located, slot_in, rows_after}
use Rattle.bycode.specs.Slots.{slot_le, stands, ascending_set, ascending_in}

-- ---- where a code is located
module _ (c : Text) (es : List Entry) where
  pub located_by : (b : Bool) → is_held c es ≡ b → located c es ≡ cond b (Ok (slot c es)) (Err (slot c es))
  located_by b e = ap (λ (z : Bool). cond z (Ok (slot c es)) (Err (slot c es))) e

  there : (p : ℕ) → located c es ≡ Ok p → (is_held c es ≡ true) × (p ≡ slot c es)
  there p e = ok_is (is_held c es) (slot c es) (slot c es) p e

  lacks : (p : ℕ) → located c es ≡ Err p → (is_held c es ≡ false) × (p ≡ slot c es)
  lacks p e = err_is (is_held c es) (slot c es) (slot c es) p e

  locates_by : is_ascending es ≡ true → (b : Bool) → is_held c es ≡ b → Locates c es (cond b (Ok (slot c es)) (Err (slot c es)))
  locates_by u true t = stands c es u t
  locates_by u false t = record { within = slot_le c es; unheld = t }

  locates : is_ascending es ≡ true → Locates c es (located c es)
  locates u = locates_by u (is_held c es) refl

-- ---- what a write keeps
changed : (e : Entry) (es : List Entry) (p : ℕ) → is_ascending es ≡ true → Stands e.code es p → is_ascending (renewed es p (p + 1) e) ≡ true
changed e es p u s = ap is_ascending (renewed_here es p e s.inside) ∙ ascending_set es p e e (s.code e) u

added : (e : Entry) (es : List Entry) (p : ℕ) → is_ascending es ≡ true → located e.code es ≡ Err p → is_ascending (insert es p e) ≡ true
added e es p u is =
    let t = lacks e.code es p is in
    ap (λ (i : ℕ). is_ascending (insert es i e)) t.1 ∙ ascending_in e es u t.0

-- ---- every row after it
rows_changed : (r : Record) (n : ℕ) (xs : List Record) (p : ℕ) → n ≤ length xs → p < n → located (code_text r.code) (held_in n xs) ≡ Ok p → renewed xs p (p + 1) r ≡ rows_after r n xs
rows_changed r n xs p h lt is =
    let t = there (code_text r.code) (held_in n xs) p is in
    renewed_here xs p r (omega arith) ∙ ap (λ (i : ℕ). set xs i r) t.1
    ∙ by_held r n xs (slice_set xs (slot_in r n xs) r) (opened xs (slot_in r n xs) n r) xs t.0

rows_added : (r : Record) (n : ℕ) (xs : List Record) (p : ℕ) → n < limit (length xs) → located (code_text r.code) (held_in n xs) ≡ Err p → opened xs p n r ≡ rows_after r n xs
rows_added r n xs p lt is =
    let t = lacks (code_text r.code) (held_in n xs) p is in
    ap (λ (i : ℕ). opened xs i n r) t.1
    ∙ by_free r n xs (slice_set xs (slot_in r n xs) r) (opened xs (slot_in r n xs) n r) xs t.0 lt

pub ascending_order : IsOrder is_ascending located (λ p last. p) rows_after
ascending_order = record {
  empty = refl;
  apart = ascending_apart;
  locates = locates;
  upward = λ p last h. (omega arith, h);
  changed = changed;
  added = added;
  rows_changed = rows_changed;
  rows_added = rows_added;
  rows_refused = λ r n xs le t. by_full r n xs (slice_set xs (slot_in r n xs) r) (opened xs (slot_in r n xs) n r) xs t le;
}
