-- Values that have the same text are the same. Assumes nothing.
use Rattle.std.proofs.Common.{◌≡◌, ℕ, ◌-◌, ◌<◌, ◌≤◌, ◌^◌, max, true, ◌&&◌, eqb, decimal, ◌++◌, length, get_or, take, drop, replicate, sym, refl, ap, ◌∙◌, subst, arith, take-append-drop}
use mathlib.Core.Bool.{Bool-set}
use mathlib.Core.HLevel.{×_prop}
use mathlib.Core.List.{is_set}
use native.Mathlib.Bridge.{le_prop}
use native.Mathlib.Nat.{ℕ_set, pow-le-pow_right, zero-lt-suc}
use Rattle.std.proofs.lemmas.Fmt.{decimal_injective}
use Rattle.std.proofs.lemmas.List.{length-take-le}
use Rattle.std.proofs.lemmas.Slice.Eq.{slice_eq-Decides, bytes_eq-Decides}
use Rattle.std.proofs.lemmas.Bool.Decides.{same_from_decides, Decides-and, Decides-eqb, Decides-like}
use Rattle.std.proofs.Math.Bool.{and-true}
use Rattle.std.specs.Str.{bytes_eq}
use lib.Pointwise.{pointwise}
use Rattle.rulebook.specs.Texts.{Text}
use Rattle.rulebook.specs.Schemes.{is_right}
use Rattle.rulebook.specs.Articles.{ean13}
use Rattle.rulebook.specs.Dates.{month_days, written_day}
use Rattle.fields.specs.Bounded.{bounded_text}
use Rattle.fields.proofs.Decimals.{same_decimals}
use Rattle.fields.specs.Views.{date_text, lawful_text, number_text, ean_text}
use Rattle.fields.specs.declared.articles.Ean.{Ean}
use Rattle.fields.specs.declared.bounded.Bounded.{Bounded}
use Rattle.fields.specs.declared.dates.Date.{Date}
use Rattle.fields.specs.declared.names.Lawful.{Lawful}
use Rattle.fields.specs.declared.numbers.Number.{Number}

-- equal contents, and a fact about them that has one proof
pub same_by : {A X : Type 0} (P : A → Type 0) (make : (a : A) → P a → X) → ((a : A) (p q : P a) → p ≡ q) → (a b : A) → a ≡ b → (p : P a) (q : P b) → make a p ≡ make b q
same_by {A} {X} P make one a b e p = subst (λ (b : A). (q : P b) → make a p ≡ make b q) e (λ q. ap (make a) (one a p q))

pub kept_alike : {n : ℕ} {R : _} {rule : _} (a b : Lawful n R rule) → a.kept ≡ b.kept → a ≡ b
kept_alike {n} {R} {rule} a b e =
    same_by {X = Lawful n R rule} (λ (k : Bounded n). rule.lawful (bounded_text k) ≡ true) (λ k p. record { kept = k; rule = a.rule; lawful = p }) (λ k p q. Bool-set (rule.lawful (bounded_text k)) true p q) a.kept b.kept e a.lawful b.lawful

pub ean_same : (a b : Ean) → ean_text a ≡ ean_text b → a ≡ b
ean_same a b e =
    same_by {X = Ean} (λ (t : Text). is_right ean13 t ≡ true) (λ t p. record { digits = t; right = p }) (λ t p q. Bool-set (is_right ean13 t) true p q) a.digits b.digits e a.right b.right

abbrev Between : ℕ → ℕ → Type 0
Between most n = (1 ≤ n) × (n ≤ most)

-- numbers of at most nineteen digits
pub number_fits : (k n : ℕ) → k ≤ 19 → n ≤ max 1 (10 ^ k - 1) → n < 2 ^ 64
number_fits k n h s = let p : 10 ^ k ≤ 10 ^ 19 = pow-le-pow_right (zero-lt-suc 9) h in omega arith

pub number_same : (k : ℕ) → k ≤ 19 → (a b : Number k) → number_text a ≡ number_text b → a ≡ b
number_same k h a b e =
    same_by {X = Number k} (Between (max 1 (10 ^ k - 1))) (λ n p. record { number = n; positive = p.0; small = p.1 }) (λ n. ×_prop le_prop le_prop) a.number b.number
    (decimal_injective a.number b.number (number_fits k a.number h a.small) (number_fits k b.number h b.small) e) (a.positive, a.small) (b.positive, b.small)

abbrev Day : ℕ × (ℕ × ℕ) → Type 0
Day t = (2000 ≤ t.0) × ((t.0 ≤ 2099) × ((1 ≤ t.1.0) × ((t.1.0 ≤ 12) × ((1 ≤ t.1.1) × (t.1.1 ≤ month_days t.0 t.1.0)))))

day_same : (y m d y' m' d' : ℕ) → y ≤ 2099 → y' ≤ 2099 → written_day y m d ≡ written_day y' m' d' → ◌≡◌ {A = ℕ × (ℕ × ℕ)} (y, (m, d)) (y', (m', d'))
unfolding written_day
day_same y m d y' m' d' h h' e =
    let e0 = ap (λ (l : Text). get_or l 0 0) e in
    let e1 = ap (λ (l : Text). get_or l 1 0) e in
    let e2 = ap (λ (l : Text). get_or l 2 0) e in
    let e3 = ap (λ (l : Text). get_or l 3 0) e in
    let e5 = ap (λ (l : Text). get_or l 5 0) e in
    let e6 = ap (λ (l : Text). get_or l 6 0) e in
    let e8 = ap (λ (l : Text). get_or l 8 0) e in
    let e9 = ap (λ (l : Text). get_or l 9 0) e in
    let ey : y ≡ y' = omega arith in
    let em : m ≡ m' = omega arith in
    let ed : d ≡ d' = omega arith in
    λ i. (ey i, (em i, ed i))

pub date_same : (a b : Date) → date_text a ≡ date_text b → a ≡ b
date_same a b e =
    same_by {X = Date} Day (λ t p. record { year = t.0; month = t.1.0; day = t.1.1; since = p.0; until = p.1.0; january = p.1.1.0; december = p.1.1.1.0; first = p.1.1.1.1.0; last = p.1.1.1.1.1 })
    (λ t. ×_prop le_prop (×_prop le_prop (×_prop le_prop (×_prop le_prop (×_prop le_prop le_prop)))))
    (a.year, (a.month, a.day)) (b.year, (b.month, b.day))
    (day_same a.year a.month a.day b.year b.month b.day a.until b.until e)
    (a.since, (a.until, (a.january, (a.december, (a.first, a.last))))) (b.since, (b.until, (b.january, (b.december, (b.first, b.last)))))

abbrev Kept : ℕ → Text × ℕ → Type 0
Kept n t = (t.1 ≤ n) × ((drop t.1 t.0 ≡ replicate (n - t.1) 0) × (length t.0 ≡ n))

kept_same : (n : ℕ) (xs ys : Text) (k m : ℕ) → length xs ≡ n → length ys ≡ n → k ≤ n → m ≤ n → drop k xs ≡ replicate (n - k) 0 → drop m ys ≡ replicate (n - m) 0 → take k xs ≡ take m ys → ◌≡◌ {A = Text × ℕ} (xs, k) (ys, m)
kept_same n xs ys k m lx ly hk hm cx cy e =
    let s : k ≡ m = omega (arith, sym (length-take-le k xs (omega arith)) ∙ ap length e ∙ length-take-le m ys (omega arith)) in
    let t : xs ≡ ys = sym (take-append-drop k xs) ∙ ap (λ (l : Text). l ++ drop k xs) e ∙ ap (λ (l : Text). take m ys ++ l) (cx ∙ ap (λ (j : ℕ). replicate (n - j) 0) s ∙ sym cy) ∙ take-append-drop m ys in
    λ i. (t i, s i)

pub bounded_same : {n : ℕ} (a b : Bounded n) → bounded_text a ≡ bounded_text b → a ≡ b
bounded_same {n} a b e =
    same_by {X = Bounded n} (Kept n) (λ t p. record { bytes = t.0; len = t.1; within = p.0; clear = p.1.0; long = p.1.1 })
    (λ t. ×_prop le_prop (×_prop (is_set ℕ_set (drop t.1 t.0) (replicate (n - t.1) 0)) (ℕ_set (length t.0) n)))
    (a.bytes, a.len) (b.bytes, b.len)
    (kept_same n a.bytes b.bytes a.len b.len a.long b.long a.within b.within a.clear b.clear e)
    (a.within, (a.clear, a.long)) (b.within, (b.clear, b.long))

pub lawful_same : {n : ℕ} {R : _} {rule : _} (a b : Lawful n R rule) → lawful_text a ≡ lawful_text b → a ≡ b
lawful_same a b e = kept_alike a b (bounded_same a.kept b.kept e)

-- what `==` says of two values, it says of their texts
pub number_eq : (k : ℕ) → k ≤ 19 → (a b : Number k) → eqb a.number b.number ≡ bytes_eq (number_text a) (number_text b)
number_eq k h a b = same_decimals a.number b.number (number_fits k a.number h a.small) (number_fits k b.number h b.small)

pub lawful_eq : {n : ℕ} {R : _} {rule : _} (a b : Lawful n R rule) → ((pointwise eqb a.kept.bytes b.kept.bytes && eqb a.kept.len b.kept.len) && true) ≡ bytes_eq (lawful_text a) (lawful_text b)
lawful_eq a b =
    let alike = Decides-and (pointwise eqb a.kept.bytes b.kept.bytes) (eqb a.kept.len b.kept.len) (slice_eq-Decides Decides-eqb a.kept.bytes b.kept.bytes _ refl) (Decides-eqb a.kept.len b.kept.len) in
    and-true (pointwise eqb a.kept.bytes b.kept.bytes && eqb a.kept.len b.kept.len)
    ∙ same_from_decides (pointwise eqb a.kept.bytes b.kept.bytes && eqb a.kept.len b.kept.len) (bytes_eq (lawful_text a) (lawful_text b))
    (Decides-like _ (λ p. let x = p.0 in let y = p.1 in cc) (λ e. let s = bounded_same a.kept b.kept e in (cc, cc)) alike) (bytes_eq-Decides (lawful_text a) (lawful_text b))
