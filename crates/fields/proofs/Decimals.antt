-- A number read from its digits is written by them again. Assumes nothing.
use Rattle.std.proofs.Common.{◌≡◌, ℕ, ◌+◌, ◌-◌, ◌*◌, ◌^◌, ◌<◌, ◌≤◌, true, not, ◌&&◌, eqb, leb, max, min, [], ◌∷◌, length, get_or, take, zero, suc, decimal, sym, refl, ap, ◌∙◌, ⊎_elim, arith}
use Rattle.std.specs.Str.{all_ascii_digits, bytes_eq}
use Rattle.std.specs.Str.Parse.{digits_value}
use Rattle.std.specs.Char.{digit_value}
use Rattle.std.proofs.lemmas.Str.{digit_value_digit}
use Rattle.std.proofs.lemmas.Int.Digits.{digits_value_more}
use Rattle.std.proofs.lemmas.Fmt.{decimal-digits_value, decimal_digit, decimal_injective}
use Rattle.std.proofs.lemmas.Slice.Eq.{bytes_eq-Decides}
use Rattle.std.proofs.lemmas.Str.Parse.{IsNumeralModel, digits_value-take-le, numerals_by_value, tells_all_ascii_digits, digits_value_short}
use Rattle.std.proofs.lemmas.Bool.{and_from, and_parts, eqb-false, not-true, leb-true, cases_lt}
use Rattle.std.proofs.lemmas.Bool.Decides.{same_from_decides, Decides-eqb, Decides-like}
use Rattle.rulebook.specs.Texts.{Text}
use Rattle.rulebook.specs.Codes.{is_digit}
use Rattle.rulebook.specs.Fields.{all_of, up_to, is_number}

pub by_digits : IsNumeralModel (λ t. all_ascii_digits t ≡ true) (digits_value 10)
by_digits = numerals_by_value _ tells_all_ascii_digits

all_digits : (t : Text) → all_of is_digit t ≡ true → all_ascii_digits t ≡ true
all_digits [] e = refl
all_digits (b ∷ bs) e =
    let p = and_parts (is_digit b) (all_of is_digit bs) e in
    and_from (leb 48 b && leb b 57) (all_ascii_digits bs) p.0 (all_digits bs p.1)

-- a text of 1 to k digits without leading zero, and no more than nineteen
pub record Numbered (k : ℕ) (t : Text) : Type 0 where
  pub digits : all_ascii_digits t ≡ true
  pub fits : digits_value 10 t < 2 ^ 64
  pub positive : 1 ≤ digits_value 10 t
  pub small : digits_value 10 t ≤ max 1 (10 ^ k - 1)
  pub text : decimal (digits_value 10 t) ≡ t

small_from : (v p : ℕ) → v < p → v ≤ max 1 (p - 1)
small_from v p h = omega arith

pub numbered : (k m : ℕ) (t : Text) → m ≡ min k 19 → true ≡ is_number m t → Numbered k t
numbered k m t least n =
    let u = and_parts (up_to m is_digit t) (not (eqb (get_or t 0 0) 48)) (sym n) in
    let p = and_parts (leb 1 (length t)) _ u.0 in
    let q = and_parts (leb (length t) m) (all_of is_digit t) p.1 in
    let ne : get_or t 0 0 ≡ 48 → ⊥ = eqb-false (get_or t 0 0) 48 (not-true (eqb (get_or t 0 0) 48) u.1) in
    let lo : 1 ≤ length t = leb-true 1 (length t) p.0 in
    let hi : length t ≤ m = leb-true (length t) m q.0 in
    let few : m ≤ 19 = omega arith in
    let narrow : m ≤ k = omega arith in
    let d = all_digits t q.1 in
    let v = digits_value 10 t in
    let below : v < 10 ^ 19 = digits_value_short by_digits t 19 d (omega arith) in
    let short : v < 10 ^ k = digits_value_short by_digits t k d (omega arith) in
    let is : decimal v ≡ t = decimal-digits_value by_digits t d lo (λ z. absurd (ne z)) (omega arith) in
    let some : 1 ≤ v = ⊎_elim
    (λ h. let z : 48 + v ≡ 48 = omega arith in absurd (ne (ap (λ (l : Text). get_or l 0 0) (sym is ∙ decimal_digit v (omega arith)) ∙ z)))
    (λ h. h) (cases_lt v 1) in
    record { digits = d; fits = omega arith; positive = some; small = small_from v (10 ^ k) short; text = is }

-- numbers are the same as their digits are
pub same_decimals : (m n : ℕ) → m < 2 ^ 64 → n < 2 ^ 64 → eqb m n ≡ bytes_eq (decimal m) (decimal n)
same_decimals m n hm hn =
    same_from_decides (eqb m n) (bytes_eq (decimal m) (decimal n)) (Decides-eqb m n)
    (Decides-like (bytes_eq (decimal m) (decimal n)) (decimal_injective m n hm hn) (ap decimal) (bytes_eq-Decides (decimal m) (decimal n)))

-- one digit more
pub record Next (t : Text) (i : ℕ) : Type 0 where
  pub low : 48 ≤ get_or t i 0
  pub high : get_or t i 0 ≤ 57
  pub more : digits_value 10 (take i t) * 10 + (get_or t i 0 - 48) ≡ digits_value 10 (take (i + 1) t)
  pub within : digits_value 10 (take (i + 1) t) ≤ digits_value 10 t

digit_here : (t : Text) (i : ℕ) → all_ascii_digits t ≡ true → i < length t → (48 ≤ get_or t i 0) × (get_or t i 0 ≤ 57)
digit_here [] i e h = absurd (omega arith)
digit_here (b ∷ bs) zero e h = let p = and_parts (leb 48 b) (leb b 57) (and_parts (leb 48 b && leb b 57) (all_ascii_digits bs) e).0 in (leb-true 48 b p.0, leb-true b 57 p.1)
digit_here (b ∷ bs) (suc i) e h = digit_here bs i (and_parts (leb 48 b && leb b 57) (all_ascii_digits bs) e).1 (omega arith)

pub next_digit : (t : Text) (i : ℕ) → all_ascii_digits t ≡ true → i < length t → Next t i
next_digit t i e h =
    let d = digit_here t i e h in
    let v : digit_value (get_or t i 0) + 48 ≡ get_or t i 0 = digit_value_digit (get_or t i 0) d in
    let m = digits_value_more 10 t i h in
    record { low = d.0; high = d.1; more = omega arith; within = digits_value-take-le 10 t (i + 1) (omega arith) }
