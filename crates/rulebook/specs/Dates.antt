-- Dates: the days of 2000 to 2099, as they are written.
-- A reader has to believe: the calendar below is the Gregorian one, and a date is written YYYY-MM-DD.
use Rattle.std.specs.Prelude.{ℕ, ◌+◌, ◌-◌, ◌*◌, ◌/◌, ◌%◌, Bool, cond, not, ◌&&◌, ◌||◌, [], ◌∷◌, length, Result, ◌==◌, nat_le, nat_lt, slice_index}
use Rattle.grounds.specs.declared.Ground.TheVariants.{Date}
use Rattle.grounds.specs.declared.Refusal.{Refusal}
use Rattle.rulebook.specs.Texts.{Text, passed}
use Rattle.rulebook.specs.Codes.{is_digit}

abbrev pub is_leap : ℕ → Bool
is_leap y = (y % 4 == 0 && not (y % 100 == 0)) || y % 400 == 0

abbrev pub month_days : ℕ → ℕ → ℕ
month_days y m = cond (m == 2) (cond (is_leap y) 29 28) (cond (m == 4 || (m == 6 || (m == 9 || m == 11))) 30 31)

abbrev pub is_day : ℕ → ℕ → ℕ → Bool
is_day y m d = (nat_le 2000 y && nat_le y 2099) && ((nat_le 1 m && nat_le m 12) && (nat_le 1 d && nat_le d (month_days y m)))

-- two digits at a place, counted from 0, and the number that they write
abbrev pub two_digits : Text → ℕ → Bool
two_digits t i = is_digit (slice_index t i) && is_digit (slice_index t (i + 1))

abbrev pub number_at : Text → ℕ → ℕ
number_at t i = (slice_index t i - 48) * 10 + (slice_index t (i + 1) - 48)

-- YYYY-MM-DD
abbrev pub is_date_form : Text → Bool
is_date_form t = length t == 10 && (slice_index t 4 == 45 && (slice_index t 7 == 45 && (two_digits t 0 && (two_digits t 2 && (two_digits t 5 && two_digits t 8)))))

abbrev pub year_of : Text → ℕ
year_of t = number_at t 0 * 100 + number_at t 2

abbrev pub month_of : Text → ℕ
month_of t = number_at t 5

abbrev pub day_of : Text → ℕ
day_of t = number_at t 8

abbrev pub is_date : Text → Bool
is_date t = is_date_form t && is_day (year_of t) (month_of t) (day_of t)

-- a day as it is written
unfoldable pub written_day : ℕ → ℕ → ℕ → Text
written_day y m d = (48 + y / 1000) ∷ (48 + y / 100 % 10) ∷ (48 + y / 10 % 10) ∷ (48 + y % 10) ∷ 45 ∷ (48 + m / 10) ∷ (48 + m % 10) ∷ 45 ∷ (48 + d / 10) ∷ (48 + d % 10) ∷ []

-- a number that is larger for a later day
abbrev pub day_key : ℕ → ℕ → ℕ → ℕ
day_key y m d = y * 10000 + (m * 100 + d)

-- the day of one date lies before that of another
unfoldable pub is_earlier : Text → Text → Bool
is_earlier a b = nat_lt (day_key (year_of a) (month_of a) (day_of a)) (day_key (year_of b) (month_of b) (day_of b))

abbrev pub read_date : Text → Result Text Refusal
read_date t = passed Date (is_date t) t
