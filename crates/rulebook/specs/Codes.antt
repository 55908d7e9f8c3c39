-- The sixteen characters of a code, its check character, and how a code is read.
-- A reader has to believe: the values, the lawful characters and the weights are those of docs/CODES.md.
use Rattle.std.specs.Prelude.{◌≡◌, ℕ, ◌+◌, ◌-◌, ◌%◌, Bool, true, cond, ◌&&◌, ◌||◌, [], ◌∷◌, ◌++◌, length, Ok, Err, Result, ◌==◌, nat_le, nat_lt, slice_index}
use Rattle.grounds.specs.declared.Ground.TheVariants.{CodeForm, OtherOffice, CheckCharacter}
use Rattle.grounds.specs.declared.Refusal.{Refusal}
use Rattle.rulebook.specs.Texts.{Text, refused, viewed, onward}
use Rattle.rulebook.specs.Schemes.{Scheme, weighed, is_right}

abbrev pub is_digit : ℕ → Bool
is_digit b = nat_le 48 b && nat_le b 57

abbrev pub is_capital : ℕ → Bool
is_capital b = nat_le 65 b && nat_le b 90

abbrev pub is_minus : ℕ → Bool
is_minus b = b == 45

-- the value of a character: 0 to 9 count 0 to 9, A to Z 10 to 35, minus 36; 255 stands for none
abbrev pub value_of : ℕ → ℕ
value_of b = cond (is_digit b) (b - 48) (cond (is_capital b) (b - 55) (cond (is_minus b) 36 255))

-- the character of a value from 0 to 36
abbrev pub character_of : ℕ → ℕ
character_of v = cond (nat_lt v 10) (48 + v) (cond (nat_lt v 36) (55 + v) 45)

-- one of the type letters T V W X Y Z
abbrev pub is_type : ℕ → Bool
is_type b = b == 84 || (nat_le 86 b && nat_le b 90)

-- the type letter of a code
abbrev pub type_of : Text → ℕ
type_of t = slice_index t 2

-- the type letter of a code is X, a party's
abbrev pub is_party : Text → Bool
is_party t = slice_index t 2 == 88

-- the characters lawful at a place, counted from 0: a type letter at place 2, a minus at places 3 to 14 only
abbrev pub lawful_at : ℕ → ℕ → Bool
lawful_at i b = cond (i == 2) (is_type b) (nat_lt i 16 && (is_digit b || (is_capital b || (is_minus b && (nat_le 3 i && nat_lt i 15)))))

abbrev pub eic : Scheme
eic = record {
  places = 16;
  modulus = 37;
  lawful = lawful_at;
  value = value_of;
  weight = λ i. 16 - i;
}

-- sixteen lawful characters whose weighted sum is a multiple of 37
abbrev pub is_sound : Text → Bool
is_sound t = is_right eic t

-- two characters, each a digit or a capital
abbrev pub is_office : Text → Bool
is_office t = length t == 2 && ((is_digit (slice_index t 0) || is_capital (slice_index t 0)) && (is_digit (slice_index t 1) || is_capital (slice_index t 1)))

-- the first two characters of a code are the office's
abbrev pub of_office : Text → Text → Bool
of_office office t = slice_index t 0 == slice_index office 0 && slice_index t 1 == slice_index office 1

abbrev pub placed_as : Result ℕ ℕ → Result ℕ Refusal
placed_as (Ok sum) = Ok sum
placed_as (Err p) = refused CodeForm p

-- the weighted sum of n characters, each lawful at its place
abbrev pub sum_of : ℕ → Text → Result ℕ Refusal
sum_of n t = cond (length t == n) (placed_as (weighed eic t)) (refused CodeForm 0)

-- the text itself, if its sum is a multiple of 37
abbrev pub checked : Text → ℕ → Result Text Refusal
checked t sum = cond (sum % 37 == 0) (Ok t) (refused CheckCharacter 0)

-- an office is read from two characters
abbrev pub read_office : Text → Result Text Refusal
read_office t = cond (is_office t) (Ok t) (refused OtherOffice 0)

-- a code is read: form, then check character
abbrev pub read_code : Text → Result Text Refusal
read_code t = onward (sum_of 16 t) (checked t)

-- a code is read for an office: form, then office, then check character
abbrev pub read_code_for : Text → Text → Result Text Refusal
read_code_for office t = onward (sum_of 16 t) (λ sum. cond (of_office office t) (checked t sum) (refused OtherOffice 0))

-- what a weighted sum is short of a multiple of 37
abbrev pub short_of : ℕ → ℕ
short_of sum = (37 - sum % 37) % 37

-- the check character is the character of that value; there is none where that would be the minus
abbrev pub completing : ℕ → Result ℕ Refusal
completing sum = cond (short_of sum == 36) (refused CheckCharacter 0) (Ok (character_of (short_of sum)))

-- the check character of fifteen characters
abbrev pub check_character : Text → Result ℕ Refusal
check_character t = onward (sum_of 15 t) completing

-- c is a check character of t
abbrev pub Completes : Text → ℕ → Type 0
Completes t c = is_sound (t ++ (c ∷ [])) ≡ true

-- the fifteen characters with their check character
abbrev pub completed : Text → Result Text Refusal
completed t = viewed (λ c. t ++ (c ∷ [])) (check_character t)

-- a check character is the only character that completes the fifteen, and a refusal says that none does
abbrev pub OnlyCompletion : Text → Result ℕ Refusal → Type 0
OnlyCompletion t (Ok c) = Completes t c × ((d : ℕ) → Completes t d → d ≡ c)
OnlyCompletion t (Err e) = (d : ℕ) → Completes t d → ⊥
