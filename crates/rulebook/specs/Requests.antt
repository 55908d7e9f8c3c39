-- What a request line asks, or why it is refused.
-- A reader has to believe: the actions, the numbers of fields, and that the first field in fault from the left decides.
use Rattle.std.specs.Prelude.{◌≡◌, ℕ, cond, ◌||◌, List, [], ◌∷◌, length, drop, Ok, Err, Result, ◌==◌, nat_lt, slice_index}
use Rattle.grounds.specs.Grounds.{in_field}
use Rattle.grounds.specs.declared.Ground.TheVariants.{LineLength, Action, FieldCount}
use Rattle.grounds.specs.declared.Refusal.{Refusal}
use Rattle.rulebook.specs.Texts.{Text, fields, field_of, onward, placed}
use Rattle.rulebook.specs.Codes.{is_party, read_code_for}
use Rattle.rulebook.specs.Dates.{read_date}
use Rattle.rulebook.specs.Fields.{read_object, read_function, read_name, read_display, read_named, read_vat, read_ean}
use Rattle.rulebook.specs.Records.{RegistrationTexts, texts}

-- an action with the texts of its fields: date, code and registration
pub data Order : Type 0 where
  creates : Text → Text → RegistrationTexts → Order
  changes : Text → Text → RegistrationTexts → Order
  deactivates : Text → Text → Order
  reactivates : Text → Text → Order
  looks_up : Text → Order

-- fields 4 to 11
abbrev pub registration_in : Text → RegistrationTexts
registration_in line = record {
  object = field_of line 4;
  function = field_of line 5;
  name = field_of line 6;
  display = field_of line 7;
  parent = field_of line 8;
  responsible = field_of line 9;
  vat = field_of line 10;
  ean = field_of line 11;
}

-- the order, if the line has so many fields
abbrev pub of_fields : ℕ → Text → Order → Result Order Refusal
of_fields n line o = cond (length (fields line) == n) (Ok o) (Err (in_field 0 FieldCount 0))

-- by the letter of its action: C, U, D, R or L
abbrev pub by_action : ℕ → Text → Result Order Refusal
by_action letter line =
    cond (letter == 67) (of_fields 11 line (creates (field_of line 2) (field_of line 3) (registration_in line)))
    (cond (letter == 85) (of_fields 11 line (changes (field_of line 2) (field_of line 3) (registration_in line)))
    (cond (letter == 68) (of_fields 3 line (deactivates (field_of line 2) (field_of line 3)))
    (cond (letter == 82) (of_fields 3 line (reactivates (field_of line 2) (field_of line 3)))
    (cond (letter == 76) (of_fields 2 line (looks_up (field_of line 2)))
    (Err (in_field 1 Action 0))))))

-- a line cut into the fields of its action: length, then action, then number of fields
abbrev pub cut_up : Text → Result Order Refusal
cut_up line =
    cond (length line == 0 || nat_lt 194 (length line)) (Err (in_field 0 LineLength 0))
    (cond (length (field_of line 1) == 1) (by_action (slice_index (field_of line 1) 0) line) (Err (in_field 1 Action 0)))

-- fields 4 to 11 of a line for this code, read from left to right
abbrev pub read_registration : Text → Text → RegistrationTexts → Result RegistrationTexts Refusal
read_registration office c r =
    onward (placed 4 (read_object r.object)) (λ object.
    onward (placed 5 (read_function r.function)) (λ function.
    onward (placed 6 (read_name r.name)) (λ name.
    onward (placed 7 (read_display r.display)) (λ display.
    onward (placed 8 (read_named office r.parent)) (λ parent.
    onward (placed 9 (read_named office r.responsible)) (λ responsible.
    onward (placed 10 (read_vat (is_party c) r.vat)) (λ vat.
    onward (placed 11 (read_ean (is_party c) r.ean)) (λ ean.
    Ok (record { object = object; function = function; name = name; display = display; parent = parent; responsible = responsible; vat = vat; ean = ean })))))))))

-- fields 2 and 3
abbrev pub read_dated : {X : Type 0} → Text → Text → Text → (Text → Text → Result X Refusal) → Result X Refusal
read_dated office d c f = onward (placed 2 (read_date d)) (λ d. onward (placed 3 (read_code_for office c)) (λ c. f d c))

-- the fields, read from left to right
abbrev pub read_order : Text → Order → Result Order Refusal
read_order office (creates d c r) = read_dated office d c (λ d c. onward (read_registration office c r) (λ r. Ok (creates d c r)))
read_order office (changes d c r) = read_dated office d c (λ d c. onward (read_registration office c r) (λ r. Ok (changes d c r)))
read_order office (deactivates d c) = read_dated office d c (λ d c. Ok (deactivates d c))
read_order office (reactivates d c) = read_dated office d c (λ d c. Ok (reactivates d c))
read_order office (looks_up c) = onward (placed 2 (read_code_for office c)) (λ c. Ok (looks_up c))

-- what a line asks of an office
unfoldable pub asked : Text → Text → Result Order Refusal
asked office line = onward (cut_up line) (read_order office)

-- the texts of an order, which are fields of its line
abbrev pub texts_of : Order → List Text
texts_of (creates d c r) = d ∷ c ∷ texts r
texts_of (changes d c r) = d ∷ c ∷ texts r
texts_of (deactivates d c) = d ∷ c ∷ []
texts_of (reactivates d c) = d ∷ c ∷ []
texts_of (looks_up c) = c ∷ []

-- whatever a line asks, the texts are those that stand in it after the action
abbrev pub Verbatim : Text → Text → Type 0
Verbatim office line = (o : Order) → asked office line ≡ Ok o → drop 1 (fields line) ≡ texts_of o
