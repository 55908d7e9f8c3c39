-- What a search by halving says of where a code is located. Assumes nothing.
use Rattle.std.proofs.Common.{◌≡◌, ℕ, zero, suc, ◌<◌, ◌≤◌, true, false, List, [], ◌∷◌, length, get_or, is_some, Ok, Err, Result, sym, refl, ap, ◌∙◌, subst, ⊎_elim, arith}
use Rattle.std.specs.Cmp.{ranks}
use Rattle.std.specs.Cmp.Lexicographic.{slice_cmp}
use Rattle.std.specs.List.Sorted.{IsSearchInRange, IsBinarySearchResult, IsNonDecreasingBy}
use Rattle.std.specs.Ordering.{MatchOrdering, nat_cmp, ordering_then, ordering_index}
use Rattle.std.specs.declared.cmp.Ordering.{Ordering}
use Rattle.std.specs.declared.cmp.Ordering.TheVariants.{Less, Equal, Greater}
use Rattle.std.proofs.lemmas.Bool.{or_left, or_right, and_from, lt-ltb, eq-eqb, both_ways, cases_lt}
use Rattle.std.proofs.lemmas.List.{length-map, get_or-map}
use Rattle.rulebook.specs.Texts.{Text, precedes}
use Rattle.rulebook.specs.Records.{Entry}
use Rattle.rulebook.specs.Entries.{is_held}
use Rattle.rulebook.proofs.Entries.{apart_place}
use Rattle.rulebook.proofs.Orders.{precedes_irrefl, precedes_trans}
use Rattle.rulebook.proofs.Rights.{never}
use Rattle.eic.specs.Views.{code_text}
use Rattle.eic.proofs.Order.{ranked}
use Rattle.records.specs.Views.{entry_of, entries_of, placeholder}
use Rattle.records.specs.declared.Record.{Record}
use Rattle.stores.specs.Orders.{Stands}
use Rattle.stores.proofs.Placing.{found}
use Rattle.bycode.specs.Apart.{ascending_apart, ascending_at}
use Rattle.bycode.specs.Order.{is_ascending, slot, located}
use Rattle.bycode.specs.Laws.{located_by}
use Rattle.bycode.specs.Slots.{slot_le, slot_upto, slot_past, stands}

-- ---- what a search has found
module _ (c : Text) (es : List Entry) (u : is_ascending es ≡ true) (i : ℕ) where
  pub located_at : Stands c es i → Ok i ≡ located c es
  located_at s =
      let held = ap is_some (found c es i placeholder (ascending_apart es u) s) in
      let t = stands c es u held in
      let place = apart_place es (slot c es) i placeholder (ascending_apart es u) t.inside s.inside (t.code placeholder ∙ sym (s.code placeholder)) in
      sym (located_by c es true held ∙ ap Ok place)

  module _ (h : i ≤ length es) (low : (k : ℕ) (d : Entry) → k < i → precedes (get_or es k d).code c ≡ true) (high : (d : Entry) → i < length es → precedes c (get_or es i d).code ≡ true) where
    not_before : i < length es → precedes (get_or es i placeholder).code c ≡ false
    not_before lt =
        let x = (get_or es i placeholder).code in
        never (precedes x c) (λ e. both_ways (precedes x x) (precedes_irrefl x) (precedes_trans x c x e (high placeholder lt)))

    upper : slot c es ≤ i
    upper = ⊎_elim (λ lt. slot_upto c es i placeholder lt (not_before lt)) (λ le. let l = slot_le c es in omega arith) (cases_lt i (length es))

    lower_by : (j : ℕ) → j ≡ i → j ≤ slot c es
    lower_by zero e = omega arith
    lower_by (suc k) e = slot_past c es k placeholder u (omega arith) (low k placeholder (omega arith))

    place : slot c es ≡ i
    place = let a = upper in let b = lower_by i refl in omega arith

    unheld : is_held c es ≡ false
    unheld =
        never (is_held c es)
        (λ t.
        let s = stands c es u t in
        let e = place in
        let lt : i < length es = let z = s.inside in omega arith in
        let q : (get_or es i placeholder).code ≡ c = ap (λ (k : ℕ). (get_or es k placeholder).code) (sym e) ∙ s.code placeholder in
        both_ways (precedes c c) (precedes_irrefl c) (ap (precedes c) (sym q) ∙ high placeholder lt))

    pub located_past : Err i ≡ located c es
    located_past = sym (located_by c es false unheld ∙ ap Err place)

-- ---- the answers of the search
index_by : (c t v : Text) (o q : Ordering) → precedes t v ≡ true → MatchOrdering o (precedes t c ≡ true) (t ≡ c) (precedes c t ≡ true) → MatchOrdering q (precedes v c ≡ true) (v ≡ c) (precedes c v ≡ true)
    → ordering_index o ≤ ordering_index q
index_by c t v Less q h l m = omega arith
index_by c t v Equal Less h l m = absurd (both_ways (precedes t t) (precedes_irrefl t) (precedes_trans t v t h (ap (precedes v) l ∙ m)))
index_by c t v Equal Equal h l m = omega arith
index_by c t v Equal Greater h l m = omega arith
index_by c t v Greater Less h l m = absurd (both_ways (precedes t t) (precedes_irrefl t) (precedes_trans t v t h (precedes_trans v c t m l)))
index_by c t v Greater Equal h l m = absurd (both_ways (precedes t t) (precedes_irrefl t) (precedes_trans t v t h (ap (λ (w : Text). precedes w t) m ∙ l)))
index_by c t v Greater Greater h l m = omega arith

abbrev pub by_code : Text → Record → Ordering
by_code c r = slice_cmp nat_cmp (code_text r.code) c

module _ (c : Text) (xs : List Record) (u : is_ascending (entries_of xs) ≡ true) (x : Record) where
  row_code : (k : ℕ) (d : Record) (e : Entry) → k < length xs → (get_or (entries_of xs) k e).code ≡ code_text (get_or xs k d).code
  row_code k d e lt = ap (λ (y : Entry). y.code) (get_or-map entry_of xs k d e lt)

  answers : (k : ℕ) (d : Record) (o : Ordering) → by_code c (get_or xs k d) ≡ o → MatchOrdering o (precedes (code_text (get_or xs k d).code) c ≡ true) (code_text (get_or xs k d).code ≡ c) (precedes c (code_text (get_or xs k d).code) ≡ true)
  answers k d o e = subst (λ (o : Ordering). MatchOrdering o (precedes (code_text (get_or xs k d).code) c ≡ true) (code_text (get_or xs k d).code ≡ c) (precedes c (code_text (get_or xs k d).code) ≡ true)) e (ranked (code_text (get_or xs k d).code) c)

  rising : IsNonDecreasingBy (λ y. ordering_index (by_code c y)) xs
  rising i j d le h =
      ⊎_elim
      (λ (lt : i < j).
      let l = length-map xs entry_of in
      let a = row_code i d (entry_of d) (omega arith) in
      let b = row_code j d (entry_of d) h in
      let p = ascending_at (entries_of xs) i j (entry_of d) u lt (omega arith) in
      let q : precedes (code_text (get_or xs i d).code) (code_text (get_or xs j d).code) ≡ true = ap (λ (t : Text). precedes t (code_text (get_or xs j d).code)) (sym a) ∙ ap (λ (t : Text). precedes (get_or (entries_of xs) i (entry_of d)).code t) (sym b) ∙ p in
      index_by c (code_text (get_or xs i d).code) (code_text (get_or xs j d).code) (by_code c (get_or xs i d)) (by_code c (get_or xs j d)) q (ranked _ c) (ranked _ c))
      (λ (ge : j ≤ i). let e : i ≡ j = omega arith in subst (λ (k : ℕ). ordering_index (by_code c (get_or xs k d)) ≤ ordering_index (by_code c (get_or xs j d))) (sym e) (omega arith))
      (cases_lt i j)

  searched_by : (r : Result ℕ ℕ) → IsSearchInRange r (length xs) → IsBinarySearchResult (by_code c) xs r → r ≡ located c (entries_of xs)
  searched_by (Ok i) lt h =
      let l = length-map xs entry_of in
      located_at c (entries_of xs) u i (record { inside = omega arith; code = λ d. row_code i x d lt ∙ answers i x Equal (h x) })
  searched_by (Err i) le h =
      let l = length-map xs entry_of in
      let parted = h rising in
      located_past c (entries_of xs) u i (omega arith)
      (λ k d lt.
      let k' : k < length xs = omega arith in
      ap (λ (t : Text). precedes t c) (row_code k x d k') ∙ answers k x Less (parted.0 k x (omega arith) lt))
      (λ d lt.
      let k' : i < length xs = omega arith in
      ap (precedes c) (row_code i x d k') ∙ answers i x Greater (parted.1 i x (omega arith) k'))

pub searched : (c : Text) (xs : List Record) (r : Result ℕ ℕ) → IsSearchInRange r (length xs) → IsBinarySearchResult (by_code c) xs r → is_ascending (entries_of xs) ≡ true → r ≡ located c (entries_of xs)
searched c [] (Ok i) lt h u = absurd (omega arith)
searched c [] (Err i) le h u = let e : i ≡ 0 = omega arith in ap Err e
searched c (x ∷ xs) r b h u = searched_by c (x ∷ xs) u x r b h
