-- No text of a record holds a comma, so that its fields are read back. Assumes nothing.
use Rattle.std.proofs.Common.{◌≡◌, ℕ, suc, ◌^◌, ◌<◌, Bool, true, false, cond, ◌&&◌, ◌||◌, eqb, ltb, leb, List, [], ◌∷◌, ◌++◌, length, get_or, Some, None, codes, decimal, Option, sym, refl, ap, ◌∙◌, arith, rules}
use Rattle.std.specs.Str.{all_ascii_digits}
use Rattle.std.proofs.lemmas.Fmt.{digits_decimal}
use Rattle.std.proofs.lemmas.Bool.{and_parts, and_right, both_ways, cond-false, ne_eqb}
use Rattle.rulebook.specs.Texts.{Text, fields, on_first}
use Rattle.rulebook.specs.Schemes.{Scheme, is_right}
use Rattle.rulebook.specs.Codes.{eic, is_digit, is_capital, is_minus, is_type, lawful_at}
use Rattle.rulebook.specs.Articles.{ean13}
use Rattle.rulebook.specs.Dates.{written_day}
use Rattle.rulebook.specs.Fields.{all_of, up_to, is_name_byte, is_display_byte, is_vat_byte, is_vat}
use Rattle.rulebook.specs.Records.{status_text, texts}
use Rattle.rulebook.specs.Answers.{tails, granted_fields}
use Rattle.rulebook.proofs.Rights.{right_parts, lawful_at_lem}
use Rattle.fields.proofs.Decimals.{by_digits}
use Rattle.eic.specs.Views.{code_text}
use Rattle.eic.specs.declared.codes.Code.{Code}
use Rattle.fields.specs.Texts.{text_or}
use Rattle.fields.specs.Views.{name_text, display_text, vat_text, ean_text}
use Rattle.fields.specs.declared.articles.Ean.{Ean}
use Rattle.records.specs.Views.{entry_of, registration_texts}
use Rattle.records.specs.declared.Record.{Record}
use Rattle.records.specs.declared.Registration.{Registration}
use Rattle.answers.specs.Laws.{ReadsBack}

-- no byte is a comma
abbrev Plain : Text → Type 0
Plain [] = Unit {0}
Plain (b ∷ bs) = (b ≡ 44 → ⊥) × Plain bs

abbrev AllPlain : List Text → Type 0
AllPlain [] = Unit {0}
AllPlain (f ∷ fs) = Plain f × AllPlain fs

one_field : (f rest : Text) (fs : List Text) → Plain f → fields rest ≡ [] ∷ fs → fields (f ++ rest) ≡ f ∷ fs
one_field [] rest fs p e = e
one_field (b ∷ bs) rest fs p e = cond-false (eqb b 44) _ _ (ne_eqb b 44 p.0) ∙ ap (on_first b) (one_field bs rest fs p.1 e)

all_fields : (fs : List Text) → AllPlain fs → fields (tails fs) ≡ [] ∷ fs
all_fields [] p = refl
all_fields (f ∷ fs) p = ap (λ (l : List Text). [] ∷ l) (one_field f (tails fs) fs p.0 (all_fields fs p.1))

-- a test that the comma fails
module _ (test : ℕ → Bool) (no : test 44 ≡ false) where
  not_comma : (b : ℕ) → test b ≡ true → b ≡ 44 → ⊥
  not_comma b e h = both_ways (test 44) no (sym (ap test h) ∙ e)

  plain_all : (t : Text) → all_of test t ≡ true → Plain t
  plain_all [] e = tt
  plain_all (b ∷ bs) e = let p = and_parts (test b) (all_of test bs) e in (not_comma b p.0, plain_all bs p.1)

  plain_up_to : (n : ℕ) (t : Text) → up_to n test t ≡ true → Plain t
  plain_up_to n t e = plain_all t (and_parts (leb (length t) n) (all_of test t) (and_parts (leb 1 (length t)) _ e).1).1

plain_from : (t : Text) → ((i : ℕ) → i < length t → get_or t i 0 ≡ 44 → ⊥) → Plain t
plain_from [] p = tt
plain_from (b ∷ bs) p = (p 0 (omega arith), plain_from bs (λ i h. p (suc i) (omega arith)))

-- a scheme in which the comma is nowhere lawful
plain_right : (s : Scheme) → ((i : ℕ) → s.lawful i 44 ≡ false) → (t : Text) → is_right s t ≡ true → Plain t
plain_right s never t e = plain_from t (λ i h. not_comma (s.lawful i) (never i) (get_or t i 0) (lawful_at_lem (right_parts s t e) i h))

no_comma_eic : (i : ℕ) → lawful_at i 44 ≡ false
no_comma_eic i = elim (eqb i 2) as (λ v. cond v (is_type 44) (ltb i 16 && (is_digit 44 || (is_capital 44 || (is_minus 44 && (leb 3 i && ltb i 15))))) ≡ false) [ true ↦ refl | false ↦ and_right (ltb i 16) false refl ]

no_comma_ean : (i : ℕ) → (ltb i 13 && is_digit 44) ≡ false
no_comma_ean i = and_right (ltb i 13) false refl

plain_digits : (t : Text) → all_ascii_digits t ≡ true → Plain t
plain_digits [] e = tt
plain_digits (b ∷ bs) e = let p = and_parts (leb 48 b && leb b 57) (all_ascii_digits bs) e in (not_comma is_digit refl b p.0, plain_digits bs p.1)

plain_decimal : (n : ℕ) → n < 2 ^ 64 → Plain (decimal n)
plain_decimal n h = plain_digits (decimal n) (digits_decimal by_digits n h)

plain_day : (y m d : ℕ) → Plain (written_day y m d)
unfolding written_day
plain_day y m d = search rules

plain_status : (active : Bool) → Plain (status_text active)
plain_status true = search rules
plain_status false = search rules

plain_code : (c : Code) → Plain (code_text c)
plain_code c = plain_right eic no_comma_eic c.bytes c.sound

plain_vat : (t : Text) → is_vat t ≡ true → Plain t
plain_vat t e = plain_up_to is_vat_byte refl 14 t (and_parts (up_to 14 is_vat_byte t) _ (and_parts (leb 3 (length t)) _ e).1).0

plain_ean : (e : Ean) → Plain (ean_text e)
plain_ean e = plain_right ean13 no_comma_ean e.digits e.right

-- a field that may be blank
pub holds_or : {X : Type 0} (P : Text → Type 0) (f : X → Text) → P [] → ((x : X) → P (f x)) → (o : Option X) → P (text_or f o)
holds_or P f blank given None = blank
holds_or P f blank given (Some x) = given x

plain_registration : (g : Registration) → AllPlain (texts (registration_texts g))
plain_registration g =
    let object = plain_decimal g.object.number (omega (arith, g.object.small)) in
    let function = plain_decimal g.function.number (omega (arith, g.function.small)) in
    let name = plain_up_to is_name_byte refl 70 (name_text g.name) g.name.lawful in
    let display = plain_up_to is_display_byte refl 16 (display_text g.display) g.display.lawful in
    let parent = holds_or Plain code_text tt plain_code g.parent in
    let responsible = holds_or Plain code_text tt plain_code g.responsible in
    let vat = holds_or Plain vat_text tt (λ v. plain_vat (vat_text v) v.lawful) g.vat in
    let ean = holds_or Plain ean_text tt plain_ean g.ean in
    (object, (function, (name, (display, (parent, (responsible, (vat, (ean, tt))))))))

pub reads_back : (r : Record) → ReadsBack (entry_of r)
reads_back r =
    let fs = granted_fields (entry_of r) in
    let status = plain_status (entry_of r).active in
    let day = plain_day r.date.year r.date.month r.date.day in
    let plain : AllPlain fs = (plain_code r.code, (status, (day, plain_registration r.registration))) in
    one_field (codes "OK") (tails fs) fs (search rules) (all_fields fs plain)
