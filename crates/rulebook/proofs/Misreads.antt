-- A text misread from a code of the office is unsound, and its look-up is refused. Assumes nothing.
use Rattle.std.proofs.Common.{◌≡◌, ℕ, Bool, true, false, cond, ◌&&◌, eqb, length, Some, None, Ok, Err, Option, Result, sym, refl, ap, ◌∙◌, ⊎_elim}
use Rattle.grounds.specs.declared.Ground.TheVariants.{CodeForm, OtherOffice, CheckCharacter}
use Rattle.grounds.specs.declared.Refusal.{Refusal}
use Rattle.std.proofs.lemmas.Bool.{cases_Bool}
use Rattle.rulebook.specs.Texts.{Text, refused, onward}
use Rattle.rulebook.specs.Schemes.{weighted_sum, first_unlawful, unless_at, is_multiple}
use Rattle.rulebook.specs.Codes.{eic, is_sound, of_office, placed_as, checked, read_code_for}
use Rattle.rulebook.specs.Misreading.{Misread}
use Rattle.rulebook.specs.Histories.{State, verdict_of}
use Rattle.rulebook.specs.Lasting.{is_refused_as_code, Unread}
use Rattle.rulebook.proofs.Catching.{catches_misread}
use Rattle.rulebook.proofs.EicLaws.{below, distinct, telling, prime, differences_apart, sums_apart}
use Rattle.rulebook.proofs.Reading.{err_ok}

-- refused as no code of the office
record Refuses (r : Result Text Refusal) : Type 0 where
  refusal : Refusal
  is : r ≡ Err refusal
  as_code : is_refused_as_code (verdict_of {X = Text} (Err refusal)) ≡ true

unsound_by : (t : Text) (n : ℕ) (l b : Bool) (o : Option ℕ) → (l && is_multiple 37 (unless_at o n)) ≡ false
    → Refuses (onward (cond l (placed_as (unless_at o n)) (refused CodeForm 0)) (λ sum. cond b (checked t sum) (refused OtherOffice 0)))
unsound_by t n true true None e = record { refusal = _; is = ap (λ (w : Bool). cond w (Ok t) (refused CheckCharacter 0)) e; as_code = refl }
unsound_by t n true false None e = record { refusal = _; is = refl; as_code = refl }
unsound_by t n true b (Some p) e = record { refusal = _; is = refl; as_code = refl }
unsound_by t n false b o e = record { refusal = _; is = refl; as_code = refl }

unsound_refused : (office t : Text) → is_sound t ≡ false → Refuses (read_code_for office t)
unsound_refused office t e = unsound_by t (weighted_sum eic 0 t) (eqb (length t) 16) (of_office office t) (first_unlawful eic 0 t) e

read_is_sound : (office t c : Text) → read_code_for office t ≡ Ok c → is_sound t ≡ true
read_is_sound office t c h = ⊎_elim (λ s. s) (λ n. err_ok (sym (unsound_refused office t n).is ∙ h)) (cases_Bool (is_sound t))

pub misread_unread : (s : State) (c t : Text) → read_code_for s.office c ≡ Ok c → Misread c t → Unread s t
misread_unread s c t h m =
    let unsound = catches_misread eic below distinct prime telling differences_apart sums_apart c (read_is_sound s.office c c h) t m in
    let r = unsound_refused s.office t unsound in
    record { unsound = unsound; refused = rw r.is r.as_code }
