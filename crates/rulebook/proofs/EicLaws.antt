-- The laws that the EIC keeps. Assumes nothing.
use Rattle.std.proofs.Common.{◌≡◌, ℕ, ◌+◌, ◌-◌, ◌*◌, ◌/◌, ◌%◌, ◌<◌, Bool, true, not, ◌||◌, eqb, sym, refl, ap, ◌∙◌, ⊎_elim, arith, rules}
use Rattle.std.proofs.lemmas.Bool.Decides.{nat_tests}
use Rattle.rulebook.specs.Schemes.{Placed, Below, Distinct, Telling, PrimeModulus, DifferencesApart, SumsApart}
use Rattle.rulebook.specs.Codes.{eic, value_of, character_of, lawful_at}
use Rattle.rulebook.proofs.Every.{every_two}

pub short : eic.places < 256
short = search rules

pub positive : 0 < eic.modulus
positive = search rules

pub placed : Placed eic
placed i b h = grind (arith, nat_tests)

pub below : Below eic
below i b h = grind (arith, nat_tests)

back : (i b : ℕ) → lawful_at i b ≡ true → character_of (value_of b) ≡ b
back i b h = grind (arith, nat_tests)

pub distinct : Distinct eic
distinct i j a b ha hb e = sym (back i a ha) ∙ ap character_of e ∙ back j b hb

-- 37 is prime: one test over the remainders
prime_at : ℕ → ℕ → Bool
prime_at a b = eqb a 0 || (eqb b 0 || not (eqb ((a * b) % 37) 0))

product_rest : (a b : ℕ) → (a * b) % 37 ≡ 0 → ((a % 37) * (b % 37)) % 37 ≡ 0
product_rest a b e =
    let q = a / 37 in
    let r = a % 37 in
    let p = b / 37 in
    let t = b % 37 in
    let ia : a ≡ 37 * q + r = omega arith in
    let ib : b ≡ 37 * p + t = omega arith in
    let first : a * b ≡ (37 * q + r) * b = ap (λ z. z * b) ia in
    let second : (37 * q + r) * b ≡ 37 * (q * b) + r * b = omega arith in
    let third : r * b ≡ r * (37 * p + t) = ap (λ z. r * z) ib in
    let fourth : r * (37 * p + t) ≡ 37 * (r * p) + r * t = omega arith in
    omega arith

pub prime : PrimeModulus eic
unfolding prime_at
prime a b e =
    let f = product_rest a b e in
    let t : (eqb (a % 37) 0 || (eqb (b % 37) 0 || not (eqb (((a % 37) * (b % 37)) % 37) 0))) ≡ true = every_two prime_at 37 37 refl (a % 37) (b % 37) (omega arith) (omega arith) in
    grind (arith, nat_tests)

pub differences_apart : DifferencesApart eic
differences_apart i j d hi hj ne e z = omega arith

pub sums_apart : SumsApart eic
sums_apart i j hi hj ne z = omega arith

-- no weight is a multiple of 37, and 37 is prime
pub telling : Telling eic
telling i k hi pos hk e = ⊎_elim (λ z. omega arith) (λ z. omega arith) (prime (16 - i) k e)
