-- What it is for a text to be right, part by part. Assumes nothing.
use Rattle.std.proofs.Common.{◌≡◌, ℕ, ◌%◌, ◌<◌, Bool, true, false, eqb, length, get_or, Some, None, Option, refl, ap, ◌∙◌, subst, zero-add}
use Rattle.std.proofs.lemmas.Bool.{eqb-true, eq-eqb, and_parts, and_from, both_ways}
use Rattle.rulebook.specs.Texts.{Text}
use Rattle.rulebook.specs.Schemes.{Scheme, weighted_sum, first_unlawful, unless_at, weighed, is_multiple, is_right}
use Rattle.rulebook.proofs.Sums.{all_lawful}

pub record Right (s : Scheme) (t : Text) : Type 0 where
  pub long : length t ≡ s.places
  pub lawful : first_unlawful s 0 t ≡ None
  pub sums : weighted_sum s 0 t % s.modulus ≡ 0

pub lawful_at_lem : {s : Scheme} {t : Text} → Right s t → (i : ℕ) → i < length t → s.lawful i (get_or t i 0) ≡ true
lawful_at_lem {s} {t} r i h = subst (λ (z : ℕ). s.lawful z (get_or t i 0) ≡ true) (zero-add i) (all_lawful s 0 t r.lawful i h)

multiple_parts : (m n : ℕ) (o : Option ℕ) → is_multiple m (unless_at o n) ≡ true → (o ≡ None) × (n % m ≡ 0)
multiple_parts m n None e = (refl, eqb-true (n % m) 0 e)
multiple_parts m n (Some p) e = absurd (both_ways false refl e)

pub right_parts : (s : Scheme) (t : Text) → is_right s t ≡ true → Right s t
right_parts s t e =
    let p = and_parts (eqb (length t) s.places) (is_multiple s.modulus (weighed s t)) e in
    let q = multiple_parts s.modulus (weighted_sum s 0 t) (first_unlawful s 0 t) p.1 in
    record { long = eqb-true (length t) s.places p.0; lawful = q.0; sums = q.1 }

pub right_from : (s : Scheme) (t : Text) → Right s t → is_right s t ≡ true
right_from s t r =
    and_from (eqb (length t) s.places) (is_multiple s.modulus (weighed s t)) (eq-eqb (length t) s.places r.long)
    (ap (λ (o : Option ℕ). is_multiple s.modulus (unless_at o (weighted_sum s 0 t))) r.lawful ∙ eq-eqb (weighted_sum s 0 t % s.modulus) 0 r.sums)

pub never : (b : Bool) → (b ≡ true → ⊥) → b ≡ false
never true n = absurd (n refl)
never false n = refl

pub not_right : (s : Scheme) (t : Text) → (Right s t → ⊥) → is_right s t ≡ false
not_right s t n = never (is_right s t) (λ e. n (right_parts s t e))
