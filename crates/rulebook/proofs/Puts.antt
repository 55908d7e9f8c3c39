-- A list of records after one is put to it, or in the place of the one with its code: no two records have one code, and
-- under every other code is found what was. Assumes nothing.
use Rattle.std.proofs.Common.{◌≡◌, ℕ, zero, suc, ◌<◌, Bool, true, false, cond, eqb, List, [], ◌∷◌, map, length, get_or, Some, None, sym, refl, ap, ◌∙◌, arith}
use Rattle.std.specs.List.Sorted.{IsPermutation}
use Rattle.std.specs.List.{swap, ContainsAt as Has}
use Rattle.std.specs.Str.{bytes_eq}
use Rattle.std.proofs.lemmas.List.Edits.{Swapped, swapped_from_swap, length-swap}
use Rattle.std.proofs.lemmas.List.{length-map, get_or-map}
use Rattle.std.proofs.lemmas.List.Sorted.{IsPermutation-keeps}
use Rattle.std.proofs.lemmas.Bool.{eqb-true, eqb-false, or_left, or_right}
use Rattle.std.proofs.lemmas.Bool.Decides.{nat_tests}
use Rattle.rulebook.specs.Texts.{Text}
use Rattle.rulebook.specs.Records.{Entry}
use Rattle.rulebook.specs.Entries.{find, Apart, replacing, any}
use Rattle.rulebook.proofs.Entries.{same_true, same_false, none_some, find_none, apart_place}

abbrev codes : List Entry → List Text
codes es = map (λ (y : Entry). y.code) es

-- ---- codes stay apart
-- the place that the record at place k had before two were exchanged
abbrev origin : ℕ → ℕ → ℕ → ℕ
origin i j k = cond (eqb k i) j (cond (eqb k j) i k)

origin_below : (n i j k : ℕ) → i < n → j < n → k < n → origin i j k < n
origin_below n i j k hi hj hk = grind (arith, nat_tests)

origin_same : (i j k m : ℕ) → origin i j k ≡ origin i j m → k ≡ m
origin_same i j k m e = grind (arith, nat_tests)

origin_by : (f g : ℕ → Entry) (i j k : ℕ) (b c : Bool) → Swapped f g i j → eqb k i ≡ b → eqb k j ≡ c → g k ≡ f (cond b j (cond c i k))
origin_by f g i j k true c s p q = ap g (eqb-true k i p) ∙ s.0
origin_by f g i j k false true s p q = ap g (eqb-true k j q) ∙ s.1
origin_by f g i j k false false s p q = s.2 k (eqb-false k i p) (eqb-false k j q)

exchanged_at : (es : List Entry) (i j k : ℕ) (d : Entry) → i < length es → j < length es → get_or (swap es i j) k d ≡ get_or es (origin i j k) d
exchanged_at [] i j k d hi hj = refl
exchanged_at (x ∷ es) i j k d hi hj =
    origin_by (λ n. get_or (x ∷ es) n d) (λ n. get_or (swap (x ∷ es) i j) n d) i j k (eqb k i) (eqb k j)
    (swapped_from_swap (x ∷ es) (swap (x ∷ es) i j) i j d hi hj refl) refl refl

apart_exchanged : (es : List Entry) (i j : ℕ) → i < length es → j < length es → Apart es → Apart (swap es i j)
apart_exchanged es i j hi hj a k m d lt hm e =
    let n = length es in
    let long : length (swap es i j) ≡ n = length-swap es i j in
    let at = λ (p : ℕ). ap (λ (y : Entry). y.code) (exchanged_at es i j p d hi hj) in
    let same = origin_same i j k m
    (apart_place es (origin i j k) (origin i j m) d a (origin_below n i j k hi hj (omega arith)) (origin_below n i j m hi hj (omega arith)) (sym (at k) ∙ e ∙ at m)) in
    omega arith

pub apart_shuffled : (xs ys : List Entry) → Apart xs → IsPermutation xs ys → Apart ys
apart_shuffled xs ys a s = IsPermutation-keeps xs Apart a apart_exchanged ys s

-- a new code is put to the list
pub apart_cons : (x : Entry) (es : List Entry) → Apart es → find x.code es ≡ None → Apart (x ∷ es)
apart_cons x es a f zero (suc j) d lt h e = find_none x.code es f j d (omega arith) (sym e)
apart_cons x es a f (suc i) (suc j) d lt h e = a i j d (omega arith) (omega arith) e
apart_cons x es a f i zero d lt h e = omega arith

replacing_by : (x r : Entry) (es : List Entry) (b : Bool) → bytes_eq x.code r.code ≡ b → codes (replacing r es) ≡ codes es → codes (cond b (r ∷ es) (x ∷ replacing r es)) ≡ codes (x ∷ es)
replacing_by x r es true t ih = ap (λ (c : Text). c ∷ codes es) (sym (same_true x.code r.code t))
replacing_by x r es false t ih = ap (λ (l : List Text). x.code ∷ l) ih

codes_replacing : (r : Entry) (es : List Entry) → codes (replacing r es) ≡ codes es
codes_replacing r [] = refl
codes_replacing r (x ∷ es) = replacing_by x r es (bytes_eq x.code r.code) refl (codes_replacing r es)

apart_codes : (xs ys : List Entry) → codes ys ≡ codes xs → Apart xs → Apart ys
apart_codes xs ys e a i j d lt h q =
    let long : length ys ≡ length xs = sym (length-map ys _) ∙ ap length e ∙ length-map xs _ in
    let at = λ (k : ℕ) (l : k < length ys). sym (get_or-map (λ (y : Entry). y.code) ys k d [] l) ∙ ap (λ z. get_or z k []) e ∙ get_or-map (λ (y : Entry). y.code) xs k d [] (omega arith) in
    a i j d lt (omega arith) (sym (at i (omega arith)) ∙ q ∙ at j h)

pub apart_replacing : (r : Entry) (es : List Entry) → Apart es → Apart (replacing r es)
apart_replacing r es a = apart_codes es (replacing r es) (codes_replacing r es) a

-- ---- what is found
find_replacing_by : (c : Text) (r x y : Entry) (es : List Entry) (b t u : Bool)
    → (find r.code es ≡ Some y → find c (replacing r es) ≡ cond (bytes_eq r.code c) (Some r) (find c es))
    → bytes_eq x.code r.code ≡ b → bytes_eq r.code c ≡ t → bytes_eq x.code c ≡ u
    → cond b (Some x) (find r.code es) ≡ Some y → find c (cond b (r ∷ es) (x ∷ replacing r es)) ≡ cond t (Some r) (cond u (Some x) (find c es))
find_replacing_by c r x y es true true u ih p q s h = simp q
find_replacing_by c r x y es true false true ih p q s h = absurd (same_false r.code c q (sym (same_true x.code r.code p) ∙ same_true x.code c s))
find_replacing_by c r x y es true false false ih p q s h = simp q
find_replacing_by c r x y es false true true ih p q s h = absurd (same_false x.code r.code p (same_true x.code c s ∙ sym (same_true r.code c q)))
find_replacing_by c r x y es false true false ih p q s h = simp (s, ih h, q)
find_replacing_by c r x y es false false true ih p q s h = simp s
find_replacing_by c r x y es false false false ih p q s h = simp (s, ih h, q)

-- where its code is held, a record in the place of that one is found under its code, and all others as before
pub find_replacing : (c : Text) (r y : Entry) (es : List Entry) → find r.code es ≡ Some y → find c (replacing r es) ≡ cond (bytes_eq r.code c) (Some r) (find c es)
find_replacing c r y [] h = absurd (none_some y h)
find_replacing c r y (x ∷ es) h =
    find_replacing_by c r x y es (bytes_eq x.code r.code) (bytes_eq r.code c) (bytes_eq x.code c) (find_replacing c r y es) refl refl refl h

any_at : (p : Entry → Bool) (es : List Entry) (i : ℕ) (d : Entry) → i < length es → p (get_or es i d) ≡ true → any p es ≡ true
any_at p [] i d h e = absurd (omega arith)
any_at p (x ∷ es) zero d h e = or_left (p x) (any p es) e
any_at p (x ∷ es) (suc i) d h e = or_right (p x) (any p es) (any_at p es i d (omega arith) e)

-- a test that a record of the list passes is passed in the list
pub any_has : (p : Entry → Bool) (es : List Entry) (r : Entry) → Has es r → p r ≡ true → any p es ≡ true
any_has p es r h e = any_at p es h.0 r h.1 (ap p (h.2 r) ∙ e)
