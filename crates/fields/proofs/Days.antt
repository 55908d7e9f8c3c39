-- A date, read and written again, and the parts of one that is written. Assumes nothing.
use Rattle.std.proofs.Common.{◌≡◌, ℕ, ◌+◌, ◌-◌, ◌*◌, ◌/◌, ◌%◌, ◌<◌, ◌≤◌, true, eqb, ltb, leb, List, [], ◌∷◌, length, get_or, Ok, Some, sym, refl, ap, ◌∙◌, arith}
use Rattle.std.proofs.lemmas.Bool.{eqb-true, and_parts, and_from, cond-true, leb-true}
use Rattle.std.proofs.lemmas.Bool.Decides.{nat_tests}
use Rattle.std.specs.Cmp.{ranks}
use Rattle.std.specs.Ordering.{is_lt, is_some_and, partial_ordering_then, nat_cmp, MatchOrdering}
use Rattle.std.specs.declared.cmp.Ordering.{Ordering}
use Rattle.std.specs.declared.cmp.Ordering.TheVariants.{Less, Equal, Greater}
use Rattle.rulebook.specs.Texts.{Text}
use Rattle.rulebook.specs.Codes.{is_digit}
use Rattle.rulebook.specs.Dates.{two_digits, number_at, is_date_form, year_of, month_of, day_of, is_day, is_date, month_days, read_date, written_day, day_key, is_earlier}

is_digit_lem : (b : ℕ) → is_digit b ≡ true → (48 ≤ b) × (b ≤ 57)
is_digit_lem b e = let p = and_parts (leb 48 b) (leb b 57) e in (leb-true 48 b p.0, leb-true b 57 p.1)

record Digits (a b n : ℕ) : Type 0 where
  low_a : 48 ≤ a
  high_a : a ≤ 57
  low_b : 48 ≤ b
  high_b : b ≤ 57
  is : n ≡ (a - 48) * 10 + (b - 48)

digits_at : (t : Text) (i : ℕ) → two_digits t i ≡ true → Digits (get_or t i 0) (get_or t (i + 1) 0) (number_at t i)
digits_at t i e =
    let p = and_parts (is_digit (get_or t i 0)) (is_digit (get_or t (i + 1) 0)) e in
    let x = is_digit_lem (get_or t i 0) p.0 in
    let y = is_digit_lem (get_or t (i + 1) 0) p.1 in
    record { low_a = x.0; high_a = x.1; low_b = y.0; high_b = y.1; is = refl }

ten : (t : Text) → length t ≡ 10 → t ≡ get_or t 0 0 ∷ get_or t 1 0 ∷ get_or t 2 0 ∷ get_or t 3 0 ∷ get_or t 4 0 ∷ get_or t 5 0 ∷ get_or t 6 0 ∷ get_or t 7 0 ∷ get_or t 8 0 ∷ get_or t 9 0 ∷ []
ten [] e = absurd (omega arith)
ten (a ∷ []) e = absurd (omega arith)
ten (a ∷ b ∷ []) e = absurd (omega arith)
ten (a ∷ b ∷ c ∷ []) e = absurd (omega arith)
ten (a ∷ b ∷ c ∷ d ∷ []) e = absurd (omega arith)
ten (a ∷ b ∷ c ∷ d ∷ f ∷ []) e = absurd (omega arith)
ten (a ∷ b ∷ c ∷ d ∷ f ∷ g ∷ []) e = absurd (omega arith)
ten (a ∷ b ∷ c ∷ d ∷ f ∷ g ∷ h ∷ []) e = absurd (omega arith)
ten (a ∷ b ∷ c ∷ d ∷ f ∷ g ∷ h ∷ i ∷ []) e = absurd (omega arith)
ten (a ∷ b ∷ c ∷ d ∷ f ∷ g ∷ h ∷ i ∷ j ∷ []) e = absurd (omega arith)
ten (a ∷ b ∷ c ∷ d ∷ f ∷ g ∷ h ∷ i ∷ j ∷ k ∷ []) e = refl
ten (a ∷ b ∷ c ∷ d ∷ f ∷ g ∷ h ∷ i ∷ j ∷ k ∷ l ∷ m) e = absurd (omega arith)

same_ten : (a b c d e f g h i j k l m n o p q r s t : ℕ) → a ≡ k → b ≡ l → c ≡ m → d ≡ n → e ≡ o → f ≡ p → g ≡ q → h ≡ r → i ≡ s → j ≡ t → ◌≡◌ {A = List ℕ} (a ∷ b ∷ c ∷ d ∷ e ∷ f ∷ g ∷ h ∷ i ∷ j ∷ []) (k ∷ l ∷ m ∷ n ∷ o ∷ p ∷ q ∷ r ∷ s ∷ t ∷ [])
same_ten a b c d e f g h i j k l m n o p q r s t q1 q2 q3 q4 q5 q6 q7 q8 q9 q10 = cc

written_back : (t : Text) (y m d : ℕ) → is_date_form t ≡ true → y ≡ year_of t → m ≡ month_of t → d ≡ day_of t → written_day y m d ≡ t
unfolding written_day
written_back t y m d e ey em ed =
    let s1 = and_parts (eqb (length t) 10) _ e in
    let s2 = and_parts (eqb (get_or t 4 0) 45) _ s1.1 in
    let s3 = and_parts (eqb (get_or t 7 0) 45) _ s2.1 in
    let s4 = and_parts (two_digits t 0) _ s3.1 in
    let s5 = and_parts (two_digits t 2) _ s4.1 in
    let s6 = and_parts (two_digits t 5) (two_digits t 8) s5.1 in
    let p0 = digits_at t 0 s4.0 in
    let p2 = digits_at t 2 s5.0 in
    let p5 = digits_at t 5 s6.0 in
    let p8 = digits_at t 8 s6.1 in
    let d4 = eqb-true (get_or t 4 0) 45 s2.0 in
    let d7 = eqb-true (get_or t 7 0) 45 s3.0 in
    same_ten _ _ _ _ _ _ _ _ _ _ _ _ _ _ _ _ _ _ _ _ (omega arith) (omega arith) (omega arith) (omega arith) (sym d4) (omega arith) (omega arith) (sym d7) (omega arith) (omega arith)
    ∙ sym (ten t (eqb-true (length t) 10 s1.0))

pub date_read : (t : Text) (y m d : ℕ) → is_date_form t ≡ true → y ≡ year_of t → m ≡ month_of t → d ≡ day_of t → is_day y m d ≡ true → Ok (written_day y m d) ≡ read_date t
date_read t y m d s ey em ed r =
    let real : is_day (year_of t) (month_of t) (day_of t) ≡ true =
    sym (ap (λ (k : ℕ). is_day k m d) ey ∙ ap (λ (k : ℕ). is_day (year_of t) k d) em ∙ ap (λ (k : ℕ). is_day (year_of t) (month_of t) k) ed) ∙ r in
    ap Ok (written_back t y m d s ey em ed) ∙ sym (cond-true (is_date t) _ _ (and_from (is_date_form t) (is_day (year_of t) (month_of t) (day_of t)) s real))

-- four digits write their number again
four_digits : (y : ℕ) → y ≤ 9999 → (y / 1000 * 10 + y / 100 % 10) * 100 + (y / 10 % 10 * 10 + y % 10) ≡ y
four_digits y h =
    let hundreds : y / 100 ≡ y / 10 / 10 = omega arith in
    let thousands : y / 1000 ≡ y / 100 / 10 = omega arith in
    omega arith

-- the key of a day that is written
written_key : (y m d : ℕ) → y ≤ 9999 → m ≤ 99 → d ≤ 99 → day_key (year_of (written_day y m d)) (month_of (written_day y m d)) (day_of (written_day y m d)) ≡ day_key y m d
unfolding written_day
written_key y m d hy hm hd =
    let year : year_of (written_day y m d) ≡ y = omega (arith, four_digits y hy) in
    let month : month_of (written_day y m d) ≡ m = omega arith in
    let day : day_of (written_day y m d) ≡ d = omega arith in
    omega arith

-- days in the order of year, month and day are in the order of their keys
by_parts : (y m d y' m' d' : ℕ) → m ≤ 99 → d ≤ 99 → m' ≤ 99 → d' ≤ 99 → (r s t : Ordering) →
    MatchOrdering r (y < y') (y ≡ y') (y' < y) → MatchOrdering s (m < m') (m ≡ m') (m' < m) → MatchOrdering t (d < d') (d ≡ d') (d' < d) →
    is_some_and is_lt (partial_ordering_then (Some r) (partial_ordering_then (Some s) (Some t))) ≡ ltb (day_key y m d) (day_key y' m' d')
by_parts y m d y' m' d' hm hd hm' hd' Less s t p q k = grind (arith, nat_tests)
by_parts y m d y' m' d' hm hd hm' hd' Greater s t p q k = grind (arith, nat_tests)
by_parts y m d y' m' d' hm hd hm' hd' Equal Less t p q k = grind (arith, nat_tests)
by_parts y m d y' m' d' hm hd hm' hd' Equal Greater t p q k = grind (arith, nat_tests)
by_parts y m d y' m' d' hm hd hm' hd' Equal Equal Less p q k = grind (arith, nat_tests)
by_parts y m d y' m' d' hm hd hm' hd' Equal Equal Equal p q k = grind (arith, nat_tests)
by_parts y m d y' m' d' hm hd hm' hd' Equal Equal Greater p q k = grind (arith, nat_tests)

pub earlier_by_parts : (y m d y' m' d' : ℕ) → y ≤ 9999 → m ≤ 99 → d ≤ 99 → y' ≤ 9999 → m' ≤ 99 → d' ≤ 99 →
    is_some_and is_lt (partial_ordering_then (Some (nat_cmp y y')) (partial_ordering_then (Some (nat_cmp m m')) (Some (nat_cmp d d')))) ≡ is_earlier (written_day y m d) (written_day y' m' d')
unfolding is_earlier
earlier_by_parts y m d y' m' d' hy hm hd hy' hm' hd' =
    by_parts y m d y' m' d' hm hd hm' hd' (nat_cmp y y') (nat_cmp m m') (nat_cmp d d') (ranks y y') (ranks m m') (ranks d d')
    ∙ ap (λ (k : ℕ). ltb k (day_key y' m' d')) (sym (written_key y m d hy hm hd))
    ∙ ap (λ (k : ℕ). ltb (day_key (year_of (written_day y m d)) (month_of (written_day y m d)) (day_of (written_day y m d))) k) (sym (written_key y' m' d' hy' hm' hd'))

pub few_days : (y m : ℕ) → month_days y m ≤ 31
few_days y m = grind (arith, nat_tests)
