-- The weighted sum and the first unlawful character: one character more, one replaced, one put at the end. Assumes nothing.
use Rattle.std.proofs.Common.{◌≡◌, ℕ, zero, suc, ◌+◌, ◌*◌, ◌<◌, ◌≤◌, Bool, true, false, cond, [], ◌∷◌, ◌++◌, length, get_or, drop, set, Some, None, Option, refl, ◌∙◌, subst, not-suc-le-zero, add-zero, add-one, arith}
use Rattle.std.proofs.lemmas.List.{at_drop_more, at_drop_all}
use Rattle.std.proofs.lemmas.Bool.{cond-true, cond-false}
use Rattle.rulebook.specs.Texts.{Text}
use Rattle.rulebook.specs.Schemes.{Scheme, weighted_sum, first_unlawful}

module _ (s : Scheme) where
  -- one character more is read
  pub sum_more : (t : Text) (i : ℕ) → i < length t → weighted_sum s i (drop i t) ≡ s.weight i * s.value (get_or t i 0) + weighted_sum s (i + 1) (drop (i + 1) t)
  sum_more t i h = at_drop_more (weighted_sum s i) t i 0 h ∙ rw add-one

  -- all characters are read
  pub sum_all : (t : Text) (i : ℕ) → length t ≤ i → weighted_sum s i (drop i t) ≡ 0
  sum_all t i h = at_drop_all (weighted_sum s i) t i h

  pub unlawful_more : (t : Text) (i : ℕ) → i < length t → s.lawful i (get_or t i 0) ≡ true → first_unlawful s i (drop i t) ≡ first_unlawful s (i + 1) (drop (i + 1) t)
  unlawful_more t i h e = at_drop_more (first_unlawful s i) t i 0 h ∙ cond-true (s.lawful i (get_or t i 0)) _ _ e ∙ rw add-one

  pub unlawful_here : (t : Text) (i : ℕ) → i < length t → s.lawful i (get_or t i 0) ≡ false → first_unlawful s i (drop i t) ≡ Some (i + 1)
  unlawful_here t i h e = at_drop_more (first_unlawful s i) t i 0 h ∙ cond-false (s.lawful i (get_or t i 0)) _ _ e ∙ rw add-one

  pub unlawful_all : (t : Text) (i : ℕ) → length t ≤ i → first_unlawful s i (drop i t) ≡ None
  unlawful_all t i h = at_drop_all (first_unlawful s i) t i h

  -- one character is replaced
  pub sum_set : (j : ℕ) (t : Text) (i b : ℕ) → i < length t → weighted_sum s j (set t i b) + s.weight (j + i) * s.value (get_or t i 0) ≡ weighted_sum s j t + s.weight (j + i) * s.value b
  sum_set j [] i b h = absurd (not-suc-le-zero h)
  sum_set j (x ∷ xs) zero b h = rw add-zero (omega arith)
  sum_set j (x ∷ xs) (suc i) b h =
      let e : j + suc i ≡ suc j + i = omega arith in
      let l : i < length xs = omega arith in
      rw e (omega (arith, sum_set (suc j) xs i b l))

  -- one character is put at the end
  pub sum_push : (j : ℕ) (t : Text) (b : ℕ) → weighted_sum s j (t ++ (b ∷ [])) ≡ weighted_sum s j t + s.weight (j + length t) * s.value b
  sum_push j [] b = rw (add-zero j) (omega arith)
  sum_push j (x ∷ xs) b =
      let e : j + suc (length xs) ≡ suc j + length xs = omega arith in
      rw e (omega (arith, sum_push (suc j) xs b))

  first_step : (t : Bool) (o : Option ℕ) (p : ℕ) → cond t o (Some p) ≡ None → (t ≡ true) × (o ≡ None)
  first_step true o p e = (refl, e)
  first_step false o p e = let z : ◌≡◌ {A = ℕ} 0 1 = cc in absurd (omega arith)

  -- where there is no first unlawful character, each is lawful
  pub all_lawful : (j : ℕ) (t : Text) → first_unlawful s j t ≡ None → (i : ℕ) → i < length t → s.lawful (j + i) (get_or t i 0) ≡ true
  all_lawful j [] e i h = absurd (not-suc-le-zero h)
  all_lawful j (b ∷ bs) e zero h = rw add-zero (first_step (s.lawful j b) (first_unlawful s (suc j) bs) (suc j) e).0
  all_lawful j (b ∷ bs) e (suc i) h =
      let k : suc j + i ≡ j + suc i = omega arith in
      subst (λ (z : ℕ). s.lawful z (get_or bs i 0) ≡ true) k
      (all_lawful (suc j) bs (first_step (s.lawful j b) (first_unlawful s (suc j) bs) (suc j) e).1 i (omega arith))

  -- the characters before the last, and the last, are lawful, or some are not
  pub unlawful_push : (j : ℕ) (t : Text) (b : ℕ) → first_unlawful s j t ≡ None → s.lawful (j + length t) b ≡ true → first_unlawful s j (t ++ (b ∷ [])) ≡ None
  unlawful_push j [] b e l = cond-true (s.lawful j b) _ _ (rw (add-zero j) at l)
  unlawful_push j (x ∷ xs) b e l =
      let k : j + suc (length xs) ≡ suc j + length xs = omega arith in
      let f = first_step (s.lawful j x) (first_unlawful s (suc j) xs) (suc j) e in
      cond-true (s.lawful j x) _ _ f.0 ∙ unlawful_push (suc j) xs b f.1 (rw k at l)

  pub unlawful_front : (j : ℕ) (t : Text) (b : ℕ) → first_unlawful s j (t ++ (b ∷ [])) ≡ None → first_unlawful s j t ≡ None
  unlawful_front j [] b e = refl
  unlawful_front j (x ∷ xs) b e =
      let f = first_step (s.lawful j x) (first_unlawful s (suc j) (xs ++ (b ∷ []))) (suc j) e in
      cond-true (s.lawful j x) _ _ f.0 ∙ unlawful_front (suc j) xs b f.1
