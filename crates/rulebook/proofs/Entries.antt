-- What a list of records holds under a code, and what a scan of it learns. Assumes nothing.
use Rattle.std.proofs.Common.{◌≡◌, ℕ, zero, suc, ◌+◌, ◌<◌, ◌≤◌, Bool, true, false, cond, ◌||◌, List, [], ◌∷◌, length, get_or, drop, Some, None, Option, sym, refl, ap, ◌∙◌, subst, ⊎_elim, arith}
use Rattle.std.specs.List.Sorted.{IsPermutation}
use Rattle.std.specs.List.{ContainsAt as Has}
use Rattle.std.specs.Str.{bytes_eq}
use Rattle.std.proofs.lemmas.Slice.Eq.{bytes_eq-Decides}
use Rattle.std.proofs.lemmas.List.{at_drop_more, at_drop_all}
use Rattle.std.proofs.lemmas.List.Sorted.{IsPermutation-sym}
use Rattle.std.proofs.ByRecursion.{has_shuffled}
use Rattle.std.proofs.lemmas.Bool.{cases_order}
use Rattle.std.proofs.lemmas.Bool.Decides.{not_from_Decides}
use Rattle.rulebook.specs.Texts.{Text}
use Rattle.rulebook.specs.Records.{Entry}
use Rattle.rulebook.specs.Entries.{find, nth, Apart, any}
use Rattle.rulebook.proofs.Rights.{never}

pub same_true : (t u : Text) → bytes_eq t u ≡ true → t ≡ u
same_true t u e = (bytes_eq-Decides t u).0 e

pub same_false : (t u : Text) → bytes_eq t u ≡ false → t ≡ u → ⊥
same_false t u e p = not_from_Decides (bytes_eq t u) (bytes_eq-Decides t u) e p

pub same_from : (t u : Text) → t ≡ u → bytes_eq t u ≡ true
same_from t u e = (bytes_eq-Decides t u).1 e

pub unlike_from : (t u : Text) → (t ≡ u → ⊥) → bytes_eq t u ≡ false
unlike_from t u n = never (bytes_eq t u) (λ e. n (same_true t u e))

pub none_some : {X : Type 0} (x : X) → ◌≡◌ {A = Option X} None (Some x) → ⊥
none_some x e = let z : ◌≡◌ {A = ℕ} 0 1 = cc in omega arith

pub some_inj : {X : Type 0} (x y : X) → ◌≡◌ {A = Option X} (Some x) (Some y) → x ≡ y
some_inj x y e = cc

-- ---- the k-th
pub nth_some : (es : List Entry) (k : ℕ) (d : Entry) → k < length es → nth k es ≡ Some (get_or es k d)
nth_some [] k d h = absurd (omega arith)
nth_some (e ∷ es) zero d h = refl
nth_some (e ∷ es) (suc k) d h = nth_some es k d (omega arith)

pub nth_none : (es : List Entry) (k : ℕ) → length es ≤ k → nth k es ≡ None
nth_none [] k h = refl
nth_none (e ∷ es) zero h = absurd (omega arith)
nth_none (e ∷ es) (suc k) h = nth_none es k (omega arith)

-- ---- what is found
has_here : (x : Entry) (es : List Entry) → Has (x ∷ es) x
has_here x es = (0, omega arith, λ d. refl)

has_later : (x r : Entry) (es : List Entry) → Has es r → Has (x ∷ es) r
has_later x r es h = (suc h.0, omega arith, λ d. h.2 d)

find_some_by : (c : Text) (x : Entry) (es : List Entry) (r : Entry) (b : Bool) → (find c es ≡ Some r → Has es r × (r.code ≡ c)) → bytes_eq x.code c ≡ b
    → cond b (Some x) (find c es) ≡ Some r → Has (x ∷ es) r × (r.code ≡ c)
find_some_by c x es r true ih t e =
    let s : x ≡ r = some_inj x r e in
    (subst (λ (y : Entry). Has (x ∷ es) y) s (has_here x es), ap (λ (y : Entry). y.code) (sym s) ∙ same_true x.code c t)
find_some_by c x es r false ih t e = let h = ih e in (has_later x r es h.0, h.1)

pub find_some : (c : Text) (es : List Entry) (r : Entry) → find c es ≡ Some r → Has es r × (r.code ≡ c)
find_some c [] r e = absurd (none_some r e)
find_some c (x ∷ es) r e = find_some_by c x es r (bytes_eq x.code c) (find_some c es r) refl e

find_none_by : (c : Text) (x : Entry) (es : List Entry) (b : Bool) → (find c es ≡ None → (i : ℕ) (d : Entry) → i < length es → (get_or es i d).code ≡ c → ⊥) → bytes_eq x.code c ≡ b
    → cond b (Some x) (find c es) ≡ None → (i : ℕ) (d : Entry) → i < length (x ∷ es) → (get_or (x ∷ es) i d).code ≡ c → ⊥
find_none_by c x es true ih t e i d h q = none_some x (sym e)
find_none_by c x es false ih t e zero d h q = same_false x.code c t q
find_none_by c x es false ih t e (suc i) d h q = ih e i d (omega arith) q

pub find_none : (c : Text) (es : List Entry) → find c es ≡ None → (i : ℕ) (d : Entry) → i < length es → (get_or es i d).code ≡ c → ⊥
find_none c [] e i d h q = omega arith
find_none c (x ∷ es) e i d h q = find_none_by c x es (bytes_eq x.code c) (find_none c es) refl e i d h q

pub none_has : (c : Text) (es : List Entry) (r : Entry) → find c es ≡ None → Has es r → r.code ≡ c → ⊥
none_has c es r e h q = find_none c es e h.0 r h.1 (ap (λ (y : Entry). y.code) (h.2 r) ∙ q)

-- the places of two records with one code are one place
pub apart_place : (es : List Entry) (i j : ℕ) (d : Entry) → Apart es → i < length es → j < length es → (get_or es i d).code ≡ (get_or es j d).code → i ≡ j
apart_place es i j d a hi hj e =
    ⊎_elim (λ p. p) (⊎_elim (λ lt. absurd (a i j d lt hj e)) (λ lt. absurd (a j i d lt hi (sym e)))) (cases_order i j)

pub apart_same : (es : List Entry) (r s : Entry) → Apart es → Has es r → Has es s → r.code ≡ s.code → r ≡ s
apart_same es r s a h q e =
    let code : Entry → Text = λ y. y.code in
    let place = apart_place es h.0 q.0 r a h.1 q.1 (ap code (h.2 r) ∙ e ∙ ap code (sym (q.2 r))) in
    sym (h.2 r) ∙ ap (λ (i : ℕ). get_or es i r) place ∙ q.2 r

find_shuffled_by : (xs ys : List Entry) (c : Text) (f g : Option Entry) → Apart ys → IsPermutation xs ys → find c ys ≡ f → find c xs ≡ g → f ≡ g
find_shuffled_by xs ys c None None a s p q = refl
find_shuffled_by xs ys c None (Some r) a s p q =
    let h = find_some c xs r q in absurd (none_has c ys r p (has_shuffled xs ys r s h.0) h.1)
find_shuffled_by xs ys c (Some r) None a s p q =
    let h = find_some c ys r p in absurd (none_has c xs r q (has_shuffled ys xs r (IsPermutation-sym xs ys s) h.0) h.1)
find_shuffled_by xs ys c (Some r) (Some t) a s p q =
    let h = find_some c ys r p in
    let j = find_some c xs t q in
    ap Some (apart_same ys r t a h.0 (has_shuffled xs ys t s j.0) (h.1 ∙ sym j.1))

-- the order of records does not matter to what is found
pub find_shuffled : (xs ys : List Entry) (c : Text) → Apart ys → IsPermutation xs ys → find c ys ≡ find c xs
find_shuffled xs ys c a s = find_shuffled_by xs ys c (find c ys) (find c xs) a s refl refl

-- ---- a scan for a record that passes a test
module _ (p : Entry → Bool) (es : List Entry) (k : ℕ) (d : Entry) (h : k < length es) where
  pub any_hit : p (get_or es k d) ≡ true → any p (drop k es) ≡ true
  any_hit e = at_drop_more (any p) es k d h ∙ ap (λ (b : Bool). b || any p (drop (k + 1) es)) e

  pub any_miss : p (get_or es k d) ≡ false → any p (drop k es) ≡ any p (drop (k + 1) es)
  any_miss e = at_drop_more (any p) es k d h ∙ ap (λ (b : Bool). b || any p (drop (k + 1) es)) e

pub any_end : (p : Entry → Bool) (es : List Entry) (k : ℕ) → length es ≤ k → any p (drop k es) ≡ false
any_end p es k h = at_drop_all (any p) es k h
