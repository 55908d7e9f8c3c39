-- What the laws of a scheme catch: one character replaced, two exchanged, two equal ones replaced. Assumes nothing.
use Rattle.std.proofs.Common.{◌≡◌, ℕ, ◌+◌, ◌-◌, ◌*◌, ◌%◌, ◌<◌, ◌≤◌, true, ◌≢◌, length, get_or, set, sym, ap, ◌∙◌, subst, ⊎_elim, mod-eq_of_lt, add-mul, mul-le-mul_left, zero-add, arith, length-set}
use Prim.Native.Nat.{◌∣◌}
use native.Mathlib.Nat.{mul-sub, dvd-add_iff_right, dvd_of_mod-eq-zero, mod-eq-zero_of_dvd}
use Rattle.std.proofs.lemmas.List.{get_or-set_same, get_or-set_other}
use Rattle.std.proofs.lemmas.Bool.{cases_order, cases_lt}
use Rattle.rulebook.specs.Texts.{Text}
use Rattle.rulebook.specs.Schemes.{Scheme, weighted_sum, is_right, Below, Distinct, Telling, PrimeModulus, DifferencesApart, SumsApart, CatchesOne}
use Rattle.rulebook.specs.Misreading.{replaced, exchanged, twinned, CatchesMisread}
use Rattle.rulebook.proofs.Sums.{sum_set}
use Rattle.rulebook.proofs.Rights.{Right, lawful_at_lem, right_parts, not_right}

-- a number from 1 to m - 1 whose product with w is a multiple of m
record Factor (m w : ℕ) : Type 0 where
  factor : ℕ
  positive : 0 < factor
  small : factor < m
  multiple : (w * factor) % m ≡ 0

-- what lies between two multiples is a multiple
gap : (m a b d : ℕ) → a % m ≡ 0 → b % m ≡ 0 → b ≡ a + d → d % m ≡ 0
gap m a b d ha hb e =
    mod-eq-zero_of_dvd m ((dvd-add_iff_right m (dvd_of_mod-eq-zero m ha)).1 (subst (λ (z : ℕ). m ∣ z) e (dvd_of_mod-eq-zero m hb)))

between : (m w x y a b : ℕ) → a % m ≡ 0 → b % m ≡ 0 → b + w * x ≡ a + w * y → x < y → y < m → Factor m w
between m w x y a b ha hb e l hy =
    let le : x ≤ y = omega arith in
    record {
      factor = y - x;
      positive = omega arith;
      small = omega arith;
      multiple = gap m a b (w * (y - x)) ha hb (omega (arith, mul-sub w y x, mul-le-mul_left w le));
    }

-- two multiples that differ by the weight of two unlike values
factor_of : (m w x y a b : ℕ) → a % m ≡ 0 → b % m ≡ 0 → b + w * x ≡ a + w * y → x < m → y < m → (x ≡ y → ⊥) → Factor m w
factor_of m w x y a b ha hb e hx hy ne =
    ⊎_elim (λ same. absurd (ne same))
    (⊎_elim (λ l. between m w x y a b ha hb e l hy) (λ l. between m w y x b a hb ha (sym e) l hx))
    (cases_order x y)

module _ (s : Scheme) (below : Below s) (distinct : Distinct s) where
  sum_replaced : (t : Text) (i b : ℕ) → i < length t → weighted_sum s 0 (set t i b) + s.weight i * s.value (get_or t i 0) ≡ weighted_sum s 0 t + s.weight i * s.value b
  sum_replaced t i b h = rw zero-add at (sum_set s 0 t i b h)

  -- two characters are replaced
  sum_both : (t : Text) (i j a b : ℕ) → i < length t → j < length t → (i ≡ j → ⊥) →
      weighted_sum s 0 (set (set t i a) j b) + s.weight i * s.value (get_or t i 0) + s.weight j * s.value (get_or t j 0)
      ≡ weighted_sum s 0 t + s.weight i * s.value a + s.weight j * s.value b
  sum_both t i j a b hi hj ne =
      let other : j ≢ i = omega arith in
      let long : j < length (set t i a) = omega (arith, length-set t i a) in
      let first = sum_replaced t i a hi in
      let second : weighted_sum s 0 (set (set t i a) j b) + s.weight j * s.value (get_or t j 0) ≡ weighted_sum s 0 (set t i a) + s.weight j * s.value b =
      rw (get_or-set_other t i j a 0 other) at (sum_replaced (set t i a) j b long) in
      omega arith

  -- one character replaced is caught by every scheme
  pub catches_one : Telling s → (t : Text) → is_right s t ≡ true → CatchesOne s t
  catches_one telling t right i b hi ne =
      let r = right_parts s t right in
      let a = get_or t i 0 in
      not_right s (set t i b) (λ r'.
      let la : s.lawful i a ≡ true = lawful_at_lem r i hi in
      let lb : s.lawful i b ≡ true =
      subst (λ (z : ℕ). s.lawful i z ≡ true) (get_or-set_same t i b 0 hi) (lawful_at_lem r' i (omega (arith, length-set t i b))) in
      let unlike : s.value a ≡ s.value b → ⊥ = λ e. ne (sym (distinct i i a b la lb e)) in
      let f = factor_of s.modulus (s.weight i) (s.value a) (s.value b) _ _ r.sums r'.sums (sum_replaced t i b hi) (below i a la) (below i b lb) unlike in
      telling i f.factor (omega (arith, r.long)) f.positive f.small f.multiple)

  module _ (prime : PrimeModulus s) where
    -- a weight that tells two unlike values apart at no multiple is itself a multiple
    weight_multiple : {w : ℕ} → Factor s.modulus w → w % s.modulus ≡ 0
    weight_multiple {w} f =
        ⊎_elim (λ z. z) (λ z. absurd (let k = mod-eq_of_lt f.small in let p = f.positive in omega arith)) (prime w f.factor f.multiple)

    crossed : (w v d x y a b : ℕ) → w ≡ v + d → b + w * x + v * y ≡ a + w * y + v * x → b + d * x ≡ a + d * y
    crossed w v d x y a b e h =
        let wx : w * x ≡ v * x + d * x = ap (λ z. z * x) e ∙ add-mul v d x in
        let wy : w * y ≡ v * y + d * y = ap (λ z. z * y) e ∙ add-mul v d y in
        omega arith

    exchange : DifferencesApart s → {t : Text} → Right s t → (i j : ℕ) → i < length t → j < length t → (get_or t i 0 ≡ get_or t j 0 → ⊥) →
        Right s (set (set t i (get_or t j 0)) j (get_or t i 0)) → ⊥
    exchange apart {t} r i j hi hj unlike r' =
        let m = s.modulus in
        let a = get_or t i 0 in
        let b = get_or t j 0 in
        let w = s.weight i in
        let v = s.weight j in
        let x = s.value a in
        let y = s.value b in
        let ne : i ≡ j → ⊥ = λ e. unlike (ap (λ n. get_or t n 0) e) in
        let la : s.lawful i a ≡ true = lawful_at_lem r i hi in
        let lb : s.lawful j b ≡ true = lawful_at_lem r j hj in
        let differ : x ≡ y → ⊥ = λ e. unlike (distinct i j a b la lb e) in
        let hx : x < m = below i a la in
        let hy : y < m = below j b lb in
        let e = sum_both t i j b a hi hj ne in
        let wi : i < s.places = omega (arith, r.long) in
        let wj : j < s.places = omega (arith, r.long) in
        ⊎_elim
        (λ l.
        let d : v ≡ w + (v - w) = omega arith in
        let f = factor_of m (v - w) y x _ _ r.sums r'.sums (crossed v w (v - w) y x (weighted_sum s 0 t) (weighted_sum s 0 (set (set t i b) j a)) d (omega arith)) hy hx (λ z. differ (sym z)) in
        apart j i (v - w) wj wi (λ z. ne (sym z)) d (weight_multiple f))
        (λ l.
        let d : w ≡ v + (w - v) = omega arith in
        let f = factor_of m (w - v) x y _ _ r.sums r'.sums (crossed w v (w - v) x y (weighted_sum s 0 t) (weighted_sum s 0 (set (set t i b) j a)) d (omega arith)) hx hy differ in
        apart i j (w - v) wi wj ne d (weight_multiple f))
        (cases_lt w v)

    twins : SumsApart s → {t : Text} → Right s t → (i j b : ℕ) → i < length t → j < length t → (i ≡ j → ⊥) → get_or t i 0 ≡ get_or t j 0 → (b ≡ get_or t i 0 → ⊥) →
        Right s (set (set t i b) j b) → ⊥
    twins apart {t} r i j b hi hj ne like new r' =
        let m = s.modulus in
        let a = get_or t i 0 in
        let w = s.weight i in
        let v = s.weight j in
        let x = s.value a in
        let y = s.value b in
        let long : j < length (set t i b) = omega (arith, length-set t i b) in
        let la : s.lawful i a ≡ true = lawful_at_lem r i hi in
        let lb : s.lawful j b ≡ true =
        subst (λ (z : ℕ). s.lawful j z ≡ true) (get_or-set_same (set t i b) j b 0 long) (lawful_at_lem r' j (omega (arith, length-set (set t i b) j b))) in
        let both : weighted_sum s 0 (set (set t i b) j b) + w * x + v * x ≡ weighted_sum s 0 t + w * y + v * y = rw (← like) at (sum_both t i j b b hi hj ne) in
        let e : weighted_sum s 0 (set (set t i b) j b) + (w + v) * x ≡ weighted_sum s 0 t + (w + v) * y = omega (arith, add-mul w v x, add-mul w v y) in
        let f = factor_of m (w + v) x y _ _ r.sums r'.sums e (below i a la) (below j b lb) (λ z. new (sym (distinct i j a b la lb z))) in
        apart i j (omega (arith, r.long)) (omega (arith, r.long)) ne (weight_multiple f)

    pub catches_misread : Telling s → DifferencesApart s → SumsApart s → (t : Text) → is_right s t ≡ true → CatchesMisread s t
    catches_misread telling differences sums t right _ (replaced i b h n) = catches_one telling t right i b h n
    catches_misread telling differences sums t right _ (exchanged i j h k n) = not_right s _ (exchange differences (right_parts s t right) i j h k n)
    catches_misread telling differences sums t right _ (twinned i j b h k n l m) = not_right s _ (twins sums (right_parts s t right) i j b h k n l m)
