-- The order of texts is strict and total. Assumes nothing.
use Rattle.std.proofs.Common.{◌≡◌, ℕ, ◌<◌, Bool, true, false, ◌&&◌, eqb, ltb, [], ◌∷◌, sym, refl, ap, ◌∙◌, ⊎_elim, arith}
use Rattle.std.proofs.lemmas.Bool.{ltb-true, ltb-false, lt-ltb, le-ltb, eqb-true, eq-eqb, and_parts, and_from, and_right, or_cases, or_parts, or_from, or_left, or_right, both_ways, cases_Bool, cases_order}
use Rattle.rulebook.specs.Texts.{Text, precedes}

pub precedes_irrefl : (t : Text) → precedes t t ≡ false
precedes_irrefl [] = refl
precedes_irrefl (a ∷ t) =
    or_from (ltb a a) (eqb a a && precedes t t) (le-ltb a a (omega arith)) (and_right (eqb a a) (precedes t t) (precedes_irrefl t))

-- the first byte decides
by_first : (a c : ℕ) (t v : Text) → a < c → precedes (a ∷ t) (c ∷ v) ≡ true
by_first a c t v h = or_left (ltb a c) (eqb a c && precedes t v) (lt-ltb a c h)

-- the rest decides
by_rest : (a c : ℕ) (t v : Text) → a ≡ c → precedes t v ≡ true → precedes (a ∷ t) (c ∷ v) ≡ true
by_rest a c t v e h = or_right (ltb a c) (eqb a c && precedes t v) (and_from (eqb a c) (precedes t v) (eq-eqb a c e) h)

pub precedes_trans : (t u v : Text) → precedes t u ≡ true → precedes u v ≡ true → precedes t v ≡ true
precedes_trans [] [] v p q = absurd (both_ways false refl p)
precedes_trans [] (b ∷ u) [] p q = absurd (both_ways false refl q)
precedes_trans [] (b ∷ u) (c ∷ v) p q = refl
precedes_trans (a ∷ t) [] v p q = absurd (both_ways false refl p)
precedes_trans (a ∷ t) (b ∷ u) [] p q = absurd (both_ways false refl q)
precedes_trans (a ∷ t) (b ∷ u) (c ∷ v) p q =
    ⊎_elim (λ (l : ltb a b ≡ true).
    let ab = ltb-true a b l in
    ⊎_elim (λ (m : ltb b c ≡ true). let bc = ltb-true b c m in by_first a c t v (omega arith))
    (λ (m : (eqb b c && precedes u v) ≡ true). let bc = eqb-true b c (and_parts (eqb b c) (precedes u v) m).0 in by_first a c t v (omega arith))
    (or_cases (ltb b c) (eqb b c && precedes u v) q))
    (λ (l : (eqb a b && precedes t u) ≡ true).
    let x = and_parts (eqb a b) (precedes t u) l in
    let ab = eqb-true a b x.0 in
    ⊎_elim (λ (m : ltb b c ≡ true). let bc = ltb-true b c m in by_first a c t v (omega arith))
    (λ (m : (eqb b c && precedes u v) ≡ true).
    let y = and_parts (eqb b c) (precedes u v) m in
    by_rest a c t v (ab ∙ eqb-true b c y.0) (precedes_trans t u v x.1 y.1))
    (or_cases (ltb b c) (eqb b c && precedes u v) q))
    (or_cases (ltb a b) (eqb a b && precedes t u) p)

pub precedes_total : (t u : Text) → precedes t u ≡ false → (t ≡ u → ⊥) → precedes u t ≡ true
precedes_total [] [] p ne = absurd (ne refl)
precedes_total [] (b ∷ u) p ne = absurd (both_ways true p refl)
precedes_total (a ∷ t) [] p ne = refl
precedes_total (a ∷ t) (b ∷ u) p ne =
    let x = or_parts (ltb a b) (eqb a b && precedes t u) p in
    let le = ltb-false a b x.0 in
    ⊎_elim (λ (e : a ≡ b).
    let rest : precedes t u ≡ false = sym (ap (λ (z : Bool). z && precedes t u) (eq-eqb a b e)) ∙ x.1 in
    by_rest b a u t (sym e) (precedes_total t u rest (λ (s : t ≡ u). ne (ap (λ z. z ∷ t) e ∙ ap (λ z. b ∷ z) s))))
    (⊎_elim (λ (l : a < b). absurd (omega arith)) (λ (l : b < a). by_first b a u t l))
    (cases_order a b)

-- a text does not stand before one that stands before it
pub precedes_asym : (t u : Text) → precedes t u ≡ true → precedes u t ≡ false
precedes_asym t u p =
    ⊎_elim (λ q. absurd (both_ways (precedes t t) (precedes_irrefl t) (precedes_trans t u t p q))) (λ q. q) (cases_Bool (precedes u t))
