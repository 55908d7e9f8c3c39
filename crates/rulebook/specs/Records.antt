-- What a record is, by its texts.
-- A reader has to believe: a record means its code, whether it is active, the date of its latest granted line, and the
-- eight texts of its registration, fields 4 to 11 of the line that gave them.
use Rattle.std.specs.Prelude.{Bool, cond, List, [], ◌∷◌, codes}
use Rattle.rulebook.specs.Texts.{Text}

pub record RegistrationTexts : Type 0 where
  pub object : Text
  pub function : Text
  pub name : Text
  pub display : Text
  pub parent : Text
  pub responsible : Text
  pub vat : Text
  pub ean : Text

-- in the order of their fields
abbrev pub texts : RegistrationTexts → List Text
texts r = r.object ∷ r.function ∷ r.name ∷ r.display ∷ r.parent ∷ r.responsible ∷ r.vat ∷ r.ean ∷ []

pub record Entry : Type 0 where
  pub code : Text
  pub active : Bool
  pub date : Text
  pub registration : RegistrationTexts

-- the letter of a status
abbrev pub status_text : Bool → Text
status_text active = cond active (codes "A") (codes "I")

-- a record's sign: its display name if it is active, else the notice
abbrev pub sign_of : Entry → Text → Text
sign_of e notice = cond e.active e.registration.display notice
