-- Records that have the same texts are the same. Assumes nothing.
use Rattle.std.proofs.Common.{◌≡◌, ℕ, ◌<◌, true, leb, length, Some, None, Option, refl, ap, arith, lit≤}
use mathlib.Core.Bool.{Bool-set}
use Rattle.std.proofs.lemmas.Bool.{and_parts, leb-true}
use Rattle.rulebook.specs.Texts.{Text}
use Rattle.rulebook.specs.Codes.{eic, is_sound}
use Rattle.rulebook.specs.Articles.{ean13}
use Rattle.rulebook.specs.Fields.{is_vat}
use Rattle.rulebook.specs.Records.{Entry, RegistrationTexts}
use Rattle.rulebook.proofs.Rights.{right_parts}
use Rattle.eic.specs.Views.{code_text}
use Rattle.eic.specs.declared.codes.Code.{Code}
use Rattle.fields.proofs.Same.{same_by, date_same, ean_same, lawful_same, number_same}
use Rattle.fields.specs.Texts.{text_or}
use Rattle.fields.specs.Views.{ean_text, vat_text}
use Rattle.fields.specs.declared.articles.Ean.{Ean}
use Rattle.records.specs.Views.{is_active, registration_texts}
use Rattle.records.specs.Laws.{OneRecord}
use Rattle.records.specs.declared.Registration.{Registration}
use Rattle.records.specs.declared.Status.{Status}
use Rattle.records.specs.declared.Status.TheVariants.{Active, Inactive}

code_same : (a b : Code) → code_text a ≡ code_text b → a ≡ b
code_same a b e =
    same_by {X = Code} (λ (t : Text). is_sound t ≡ true) (λ t p. record { bytes = t; sound = p }) (λ t p q. Bool-set (is_sound t) true p q) a.bytes b.bytes e a.sound b.sound

-- no value has a blank text
or_same : {X : Type 0} (f : X → Text) → ((x : X) → 0 < length (f x)) → ((x y : X) → f x ≡ f y → x ≡ y) → (a b : Option X) → text_or f a ≡ text_or f b → a ≡ b
or_same f some one None None e = refl
or_same f some one None (Some y) e = let h = some y in let n = ap length e in absurd (omega arith)
or_same f some one (Some x) None e = let h = some x in let n = ap length e in absurd (omega arith)
or_same f some one (Some x) (Some y) e = ap Some (one x y e)

code_some : (c : Code) → 0 < length (code_text c)
code_some c = let h = (right_parts eic c.bytes c.sound).long in omega arith

ean_some : (e : Ean) → 0 < length (ean_text e)
ean_some e = let h = (right_parts ean13 e.digits e.right).long in omega arith

vat_some : (t : Text) → is_vat t ≡ true → 0 < length t
vat_some t e = let h = leb-true 3 (length t) (and_parts (leb 3 (length t)) _ e).0 in omega arith

status_same : (a b : Status) → is_active a ≡ is_active b → a ≡ b
status_same Active Active e = refl
status_same Active Inactive e = let z : ◌≡◌ {A = ℕ} 0 1 = cc in absurd (omega arith)
status_same Inactive Active e = let z : ◌≡◌ {A = ℕ} 0 1 = cc in absurd (omega arith)
status_same Inactive Inactive e = refl

registration_same : (a b : Registration) → registration_texts a ≡ registration_texts b → a ≡ b
registration_same a b e =
    let e1 = number_same 10 (lit≤ tt) a.object b.object (ap (λ (t : RegistrationTexts). t.object) e) in
    let e2 = number_same 2 (lit≤ tt) a.function b.function (ap (λ (t : RegistrationTexts). t.function) e) in
    let e3 = lawful_same a.name b.name (ap (λ (t : RegistrationTexts). t.name) e) in
    let e4 = lawful_same a.display b.display (ap (λ (t : RegistrationTexts). t.display) e) in
    let e5 = or_same code_text code_some code_same a.parent b.parent (ap (λ (t : RegistrationTexts). t.parent) e) in
    let e6 = or_same code_text code_some code_same a.responsible b.responsible (ap (λ (t : RegistrationTexts). t.responsible) e) in
    let e7 = or_same vat_text (λ v. vat_some (vat_text v) v.lawful) lawful_same a.vat b.vat (ap (λ (t : RegistrationTexts). t.vat) e) in
    let e8 = or_same ean_text ean_some ean_same a.ean b.ean (ap (λ (t : RegistrationTexts). t.ean) e) in
    λ i. record { object = e1 i; function = e2 i; name = e3 i; display = e4 i; parent = e5 i; responsible = e6 i; vat = e7 i; ean = e8 i }

pub one_record : OneRecord
one_record a b e =
    let e1 = code_same a.code b.code (ap (λ (h : Entry). h.code) e) in
    let e2 = status_same a.status b.status (ap (λ (h : Entry). h.active) e) in
    let e3 = date_same a.date b.date (ap (λ (h : Entry). h.date) e) in
    let e4 = registration_same a.registration b.registration (ap (λ (h : Entry). h.registration) e) in
    λ i. record { code = e1 i; status = e2 i; date = e3 i; registration = e4 i }
