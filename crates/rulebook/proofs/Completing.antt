-- The check character of fifteen characters is the only one that completes them. Assumes nothing.
use Rattle.std.proofs.Common.{◌≡◌, ℕ, ◌+◌, ◌-◌, ◌%◌, ◌<◌, Bool, true, false, cond, eqb, [], ◌∷◌, ◌++◌, length, Ok, Err, Result, sym, refl, ap, ◌∙◌, subst, arith}
use Rattle.std.proofs.lemmas.List.{length_push, get_or_push}
use Rattle.std.proofs.lemmas.Bool.{eqb-true, eqb-false}
use Rattle.std.proofs.lemmas.Bool.Decides.{nat_tests}
use Rattle.grounds.specs.declared.Ground.TheVariants.{CheckCharacter}
use Rattle.grounds.specs.declared.Refusal.{Refusal}
use Rattle.rulebook.specs.Texts.{Text, refused, onward}
use Rattle.rulebook.specs.Schemes.{weighted_sum}
use Rattle.rulebook.specs.Codes.{eic, value_of, character_of, lawful_at, sum_of, short_of, completing, check_character, Completes, OnlyCompletion}
use Rattle.rulebook.proofs.Sums.{sum_push, unlawful_push, unlawful_front}
use Rattle.rulebook.proofs.Rights.{lawful_at_lem, right_parts, right_from}
use Rattle.rulebook.proofs.EicLaws.{below, distinct}
use Rattle.rulebook.proofs.Reading.{Weighed, err_ok, sum_parts, sum_from}

-- the last character counts once
last_sum : (t : Text) (d : ℕ) → length t ≡ 15 → weighted_sum eic 0 (t ++ (d ∷ [])) ≡ weighted_sum eic 0 t + value_of d
last_sum t d h =
    let w : 16 - (0 + length t) ≡ 1 = omega arith in
    sum_push eic 0 t d ∙ rw w (omega arith)

-- what a character that completes t tells
record Completion (t : Text) (d : ℕ) : Type 0 where
  long : length t ≡ 15
  told : sum_of 15 t ≡ Ok (weighted_sum eic 0 t)
  lawful : lawful_at 15 d ≡ true
  sums : (weighted_sum eic 0 t + value_of d) % 37 ≡ 0

completion : (t : Text) (d : ℕ) → Completes t d → Completion t d
completion t d e =
    let r = right_parts eic (t ++ (d ∷ [])) e in
    let long : length t ≡ 15 = omega (arith, length_push t d, r.long) in
    record {
      long = long;
      told = sum_from 15 t long (unlawful_front eic 0 t d r.lawful);
      lawful = subst (λ (z : ℕ). lawful_at 15 z ≡ true) (get_or_push t d 0 15 long) (lawful_at_lem r 15 (omega (arith, length_push t d)));
      sums = rw (last_sum t d long) at r.sums;
    }

completes : (t : Text) (d sum : ℕ) → Weighed 15 t sum → lawful_at 15 d ≡ true → (sum + value_of d) % 37 ≡ 0 → Completes t d
completes t d sum w l e =
    let at : 15 ≡ 0 + length t = omega (arith, w.long) in
    right_from eic (t ++ (d ∷ []))
    (record {
      long = omega (arith, length_push t d, w.long);
      lawful = unlawful_push eic 0 t d w.lawful (subst (λ (n : ℕ). lawful_at n d ≡ true) at l);
      sums = rw (last_sum t d w.long) (ap (λ (n : ℕ). (n + value_of d) % 37) w.sums ∙ e);
    })

-- at the last place no character has the value 36
no_minus : (d : ℕ) → lawful_at 15 d ≡ true → value_of d < 36
no_minus d h = grind (arith, nat_tests)

-- and each smaller value has one
has_character : (v : ℕ) → v < 36 → (lawful_at 15 (character_of v) ≡ true) × (value_of (character_of v) ≡ v)
has_character v h = (grind (arith, nat_tests), grind (arith, nat_tests))

-- the value that completes a sum is what the sum is short of
short : (n v : ℕ) → v < 37 → (n + v) % 37 ≡ 0 → v ≡ short_of n
short n v h e = omega arith

reaches : (n : ℕ) → (n + short_of n) % 37 ≡ 0
reaches n = omega arith

by_value : (t : Text) (sum : ℕ) → Weighed 15 t sum → (b : Bool) → eqb (short_of sum) 36 ≡ b →
    OnlyCompletion t (cond b (refused CheckCharacter 0) (Ok (character_of (short_of sum))))
by_value t sum w true e = λ d c.
    let k = completion t d c in
    let v : value_of d ≡ short_of (weighted_sum eic 0 t) = short (weighted_sum eic 0 t) (value_of d) (below 15 d k.lawful) k.sums in
    let s : short_of (weighted_sum eic 0 t) ≡ 36 = ap short_of w.sums ∙ eqb-true (short_of sum) 36 e in
    let l = no_minus d k.lawful in
    omega arith
by_value t sum w false e =
    let v = short_of sum in
    let small : v < 36 = omega (arith, eqb-false v 36 e) in
    let h = has_character v small in
    let sums : (sum + value_of (character_of v)) % 37 ≡ 0 = rw h.1 (reaches sum) in (
      completes t (character_of v) sum w h.0 sums,
      λ d c.
          let k = completion t d c in
          let same : value_of d ≡ v = short (weighted_sum eic 0 t) (value_of d) (below 15 d k.lawful) k.sums ∙ ap short_of w.sums in
          distinct 15 15 d (character_of v) k.lawful h.0 (same ∙ sym h.1),
    )

by_sum : (t : Text) (r : Result ℕ Refusal) → sum_of 15 t ≡ r → OnlyCompletion t (onward r completing)
by_sum t (Ok sum) e = by_value t sum (sum_parts 15 sum t e) (eqb (short_of sum) 36) refl
by_sum t (Err f) e = λ d c. err_ok (sym e ∙ (completion t d c).told)

pub only_completion : (t : Text) → OnlyCompletion t (check_character t)
only_completion t = by_sum t (sum_of 15 t) refl
