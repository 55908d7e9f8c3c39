-- What a scheme of check characters is, which texts are right by it, and the laws that schemes keep.
-- A reader has to believe: a text is right if it has the scheme's length, each of its characters is lawful at its
-- place, and the sum of weight times value over its places is a multiple of the modulus.
use Rattle.std.specs.Prelude.{◌≡◌, ℕ, suc, ◌+◌, ◌*◌, ◌%◌, ◌<◌, Bool, true, false, cond, ◌&&◌, ◌⊎◌, [], ◌∷◌, length, Some, None, Ok, Err, Option, Result, ◌==◌, ◌≢◌, slice_index, slice_set}
use Rattle.rulebook.specs.Texts.{Text}

-- places are counted from 0, and characters are bytes
pub record Scheme : Type 0 where
  pub places : ℕ
  pub modulus : ℕ
  pub lawful : ℕ → ℕ → Bool
  pub value : ℕ → ℕ
  pub weight : ℕ → ℕ

-- the values of the characters, each times the weight of its place, the first at place i
abbrev pub weighted_sum : Scheme → ℕ → Text → ℕ
weighted_sum s i [] = 0
weighted_sum s i (b ∷ bs) = s.weight i * s.value b + weighted_sum s (suc i) bs

-- the position, counted from 1, of the first character that is not lawful at its place, the first at place i
abbrev pub first_unlawful : Scheme → ℕ → Text → Option ℕ
first_unlawful s i [] = None
first_unlawful s i (b ∷ bs) = cond (s.lawful i b) (first_unlawful s (suc i) bs) (Some (suc i))

abbrev pub unless_at : {X : Type 0} → Option ℕ → X → Result X ℕ
unless_at None x = Ok x
unless_at (Some p) x = Err p

-- the weighted sum of a text in lawful characters, else the position of the first that is not
abbrev pub weighed : Scheme → Text → Result ℕ ℕ
weighed s t = unless_at (first_unlawful s 0 t) (weighted_sum s 0 t)

abbrev pub is_multiple : ℕ → Result ℕ ℕ → Bool
is_multiple m (Ok n) = n % m == 0
is_multiple m (Err p) = false

abbrev pub is_right : Scheme → Text → Bool
is_right s t = length t == s.places && is_multiple s.modulus (weighed s t)

-- Laws of every scheme.

-- a lawful character stands at one of the scheme's places
abbrev pub Placed : Scheme → Type 0
Placed s = (i b : ℕ) → s.lawful i b ≡ true → i < s.places

-- the value of a lawful character is below the modulus
abbrev pub Below : Scheme → Type 0
Below s = (i b : ℕ) → s.lawful i b ≡ true → s.value b < s.modulus

-- no two characters share a value
abbrev pub Distinct : Scheme → Type 0
Distinct s = (i j a b : ℕ) → s.lawful i a ≡ true → s.lawful j b ≡ true → s.value a ≡ s.value b → a ≡ b

-- no weight times a number from 1 to modulus - 1 is a multiple of the modulus
abbrev pub Telling : Scheme → Type 0
Telling s = (i k : ℕ) → i < s.places → 0 < k → k < s.modulus → (s.weight i * k) % s.modulus ≢ 0

-- Laws of a scheme that also catches errors in two characters.

-- the modulus is prime
abbrev pub PrimeModulus : Scheme → Type 0
PrimeModulus s = (a b : ℕ) → (a * b) % s.modulus ≡ 0 → (a % s.modulus ≡ 0) ⊎ (b % s.modulus ≡ 0)

-- no difference d of the weights of two places is a multiple of the modulus
abbrev pub DifferencesApart : Scheme → Type 0
DifferencesApart s = (i j d : ℕ) → i < s.places → j < s.places → (i ≢ j) → s.weight i ≡ s.weight j + d → d % s.modulus ≢ 0

-- no sum of the weights of two places is a multiple of the modulus
abbrev pub SumsApart : Scheme → Type 0
SumsApart s = (i j : ℕ) → i < s.places → j < s.places → (i ≢ j) → (s.weight i + s.weight j) % s.modulus ≢ 0

-- no text that differs from t by one replaced character, whatever the byte in its place, is right
abbrev pub CatchesOne : Scheme → Text → Type 0
CatchesOne s t = (i b : ℕ) → i < length t → (b ≢ slice_index t i) → is_right s (slice_set t i b) ≡ false
