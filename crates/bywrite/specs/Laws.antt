-- The order of last writes keeps what an order of records has to say.
use Rattle.std.specs.Prelude.{◌≡◌, ℕ, suc, ◌+◌, ◌-◌, ◌<◌, ◌≤◌, Bool, true, false, cond, not, List, [], ◌∷◌, ◌++◌, length, drop, is_some, Some, Ok, Err, refl, slice_set}
use Rattle.std.specs.List.{insert, remove}
use Rattle.std.specs.Str.{bytes_eq}
use Rattle.std.proofs.Common.{ap, ◌∙◌, arith}
use Rattle.std.proofs.lemmas.Bool.{both_ways, and_from, not_from_false}
use Rattle.std.proofs.lemmas.List.{take_all, drop_all}
use Rattle.rulebook.specs.Texts.{Text}
use Rattle.rulebook.specs.Records.{Entry}
use Rattle.rulebook.specs.Entries.{find, is_held}
use Rattle.rulebook.specs.Stores.{limit}
use Rattle.rulebook.proofs.Entries.{same_true}
use Rattle.eic.specs.Views.{code_text}
use Rattle.records.specs.declared.Record.{Record}
use Rattle.stores.specs.Moves.{renewed, opened}
use Rattle.stores.specs.Orders.{Stands, Locates, IsOrder}
use Rattle.stores.specs.Rows.{held_in}
use Rattle.stores.proofs.Keeping.{by_held, by_free, by_full, ok_is, err_is}
use Rattle.stores.proofs.Moving.{opened_last}
use Rattle.stores.proofs.Reading.{length_held}
use Rattle.bywrite.specs.Distinct.{distinct_apart}
use Rattle.bywrite.specs.Lasts.{distinct_last, renewed_distinct}
use Rattle.bywrite.specs.Places.{is_distinct, place, located, place_in, rows_after}

-- ---- where a code is located
stands_by : (c : Text) (x : Entry) (es : List Entry) (s : Bool) → bytes_eq x.code c ≡ s → (is_held c es ≡ true → Stands c es (place c es)) → is_some (cond s (Some x) (find c es)) ≡ true
    → Stands c (x ∷ es) (cond s 0 (suc (place c es)))
stands_by c x es true t ih h = record { inside = omega arith; code = λ d. same_true x.code c t }
stands_by c x es false t ih h = let w = ih h in let i = w.inside in record { inside = omega arith; code = λ d. w.code d }

stands : (c : Text) (es : List Entry) → is_held c es ≡ true → Stands c es (place c es)
stands c [] h = absurd (both_ways false refl h)
stands c (x ∷ es) h = stands_by c x es (bytes_eq x.code c) refl (stands c es) h

module _ (c : Text) (es : List Entry) where
  there : (p : ℕ) → located c es ≡ Ok p → (is_held c es ≡ true) × (p ≡ place c es)
  there p e = ok_is (is_held c es) (place c es) (length es) p e

  lacks : (p : ℕ) → located c es ≡ Err p → (is_held c es ≡ false) × (p ≡ length es)
  lacks p e = err_is (is_held c es) (place c es) (length es) p e

  locates_by : (b : Bool) → is_held c es ≡ b → Locates c es (cond b (Ok (place c es)) (Err (length es)))
  locates_by true t = stands c es t
  locates_by false t = record { within = omega arith; unheld = t }

-- ---- what a write keeps
changed : (e : Entry) (es : List Entry) (p : ℕ) → is_distinct es ≡ true → Stands e.code es p → is_distinct (renewed es p (length es - 1 + 1) e) ≡ true
changed e es p u s =
    let i = s.inside in
    let z : length es - 1 + 1 ≡ length es = omega arith in
    ap (λ (n : ℕ). is_distinct (renewed es p n e)) z
    ∙ ap (λ (ys : List Entry). is_distinct (remove ys p ++ (e ∷ drop (length es) es))) (take_all (length es) es (omega arith))
    ∙ ap (λ (ys : List Entry). is_distinct (remove es p ++ (e ∷ ys))) (drop_all (length es) es (omega arith))
    ∙ renewed_distinct e es p s ∙ u

added : (e : Entry) (es : List Entry) (p : ℕ) → is_distinct es ≡ true → located e.code es ≡ Err p → is_distinct (insert es p e) ≡ true
added e es p u is =
    let t = lacks e.code es p is in
    ap (λ (k : ℕ). is_distinct (insert es k e)) t.1
    ∙ ap (λ (ys : List Entry). is_distinct (ys ++ e ∷ drop (length es) es)) (take_all (length es) es (omega arith))
    ∙ ap (λ (ys : List Entry). is_distinct (es ++ e ∷ ys)) (drop_all (length es) es (omega arith))
    ∙ distinct_last es e ∙ and_from (not (is_held e.code es)) (is_distinct es) (not_from_false _ t.0) u

-- ---- every row after it
rows_changed : (r : Record) (n : ℕ) (xs : List Record) (p : ℕ) → n ≤ length xs → p < n → located (code_text r.code) (held_in n xs) ≡ Ok p → renewed xs p (n - 1 + 1) r ≡ rows_after r n xs
rows_changed r n xs p h lt is =
    let t = there (code_text r.code) (held_in n xs) p is in
    let z : n - 1 + 1 ≡ n = omega arith in
    ap (λ (m : ℕ). renewed xs p m r) z ∙ ap (λ (k : ℕ). renewed xs k n r) t.1
    ∙ by_held r n xs (renewed xs (place_in r n xs) n r) (slice_set xs n r) xs t.0

rows_added : (r : Record) (n : ℕ) (xs : List Record) (p : ℕ) → n < limit (length xs) → located (code_text r.code) (held_in n xs) ≡ Err p → opened xs p n r ≡ rows_after r n xs
rows_added r n xs p lt is =
    let l = length_held n xs (omega arith) in
    let t = lacks (code_text r.code) (held_in n xs) p is in
    let e = t.1 in
    let z : p ≡ n = omega arith in
    ap (λ (k : ℕ). opened xs k n r) z ∙ opened_last xs n r (omega arith)
    ∙ by_free r n xs (renewed xs (place_in r n xs) n r) (slice_set xs n r) xs t.0 lt

pub last_write_order : IsOrder is_distinct located (λ p last. last) rows_after
last_write_order = record {
  empty = refl;
  apart = distinct_apart;
  locates = λ c es u. locates_by c es (is_held c es) refl;
  upward = λ p last h. (h, omega arith);
  changed = changed;
  added = added;
  rows_changed = rows_changed;
  rows_added = rows_added;
  rows_refused = λ r n xs le t. by_full r n xs (renewed xs (place_in r n xs) n r) (slice_set xs n r) xs t le;
}
