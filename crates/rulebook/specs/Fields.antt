-- Which texts are lawful in the fields of a registration.
-- A reader has to believe: these are the rules of docs/LINES.md, field by field.
use Rattle.std.specs.Prelude.{ℕ, Bool, true, not, ◌&&◌, ◌||◌, [], ◌∷◌, length, Result, ◌==◌, nat_le, slice_index}
use Rattle.grounds.specs.declared.Ground.TheVariants.{FieldRule}
use Rattle.grounds.specs.declared.Refusal.{Refusal}
use Rattle.rulebook.specs.Texts.{Text, passed, unless_blank}
use Rattle.rulebook.specs.Schemes.{is_right}
use Rattle.rulebook.specs.Codes.{is_digit, is_capital, read_code_for}
use Rattle.rulebook.specs.Articles.{ean13}

-- every byte passes
abbrev pub all_of : (ℕ → Bool) → Text → Bool
all_of p [] = true
all_of p (b ∷ bs) = p b && all_of p bs

-- 1 to n bytes, each of which passes
abbrev pub up_to : ℕ → (ℕ → Bool) → Text → Bool
up_to n p t = nat_le 1 (length t) && (nat_le (length t) n && all_of p t)

abbrev pub is_name_byte : ℕ → Bool
is_name_byte b = nat_le 32 b && (nat_le b 126 && not (b == 44))

abbrev pub is_display_byte : ℕ → Bool
is_display_byte b = is_digit b || (is_capital b || (b == 45 || (b == 43 || b == 95)))

abbrev pub is_vat_byte : ℕ → Bool
is_vat_byte b = is_digit b || is_capital b

-- a number of 1 to n digits without leading zero
abbrev pub is_number : ℕ → Text → Bool
is_number n t = up_to n is_digit t && not (slice_index t 0 == 48)

abbrev pub is_name : Text → Bool
is_name t = up_to 70 is_name_byte t

abbrev pub is_display : Text → Bool
is_display t = up_to 16 is_display_byte t

-- two capitals, then 1 to 12 capitals or digits
abbrev pub is_vat : Text → Bool
is_vat t = nat_le 3 (length t) && (up_to 14 is_vat_byte t && (is_capital (slice_index t 0) && is_capital (slice_index t 1)))

-- the object number, 1 to 9,999,999,999
abbrev pub read_object : Text → Result Text Refusal
read_object t = passed FieldRule (is_number 10 t) t

-- the function, 1 to 99
abbrev pub read_function : Text → Result Text Refusal
read_function t = passed FieldRule (is_number 2 t) t

abbrev pub read_name : Text → Result Text Refusal
read_name t = passed FieldRule (is_name t) t

abbrev pub read_display : Text → Result Text Refusal
read_display t = passed FieldRule (is_display t) t

-- parent and responsible party: blank, or a code of the office
abbrev pub read_named : Text → Text → Result Text Refusal
read_named office t = unless_blank t (read_code_for office t)

-- VAT and EAN: blank, or for a party a lawful one
abbrev pub read_vat : Bool → Text → Result Text Refusal
read_vat party t = unless_blank t (passed FieldRule (party && is_vat t) t)

abbrev pub read_ean : Bool → Text → Result Text Refusal
read_ean party t = unless_blank t (passed FieldRule (party && is_right ean13 t) t)
