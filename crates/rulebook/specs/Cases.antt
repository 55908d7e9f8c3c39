-- Worked cases of the rule, from published examples: texts, their weighted sum if it is told, and what is found of them.
-- A reader has to believe: nothing here; the rows are held against the definitions, and pin them from outside.
use Rattle.std.specs.Prelude.{◌≡◌, ℕ, true, List, [], ◌∷◌, ◌++◌, Some, None, Ok, codes, Option}
use Rattle.grounds.specs.declared.Ground.TheVariants.{CheckCharacter}
use Rattle.std.specs.List.{AllByRecursion}
use Rattle.rulebook.specs.Texts.{Text, refused}
use Rattle.rulebook.specs.Schemes.{weighted_sum, is_right}
use Rattle.rulebook.specs.Codes.{eic, read_code, completed}
use Rattle.rulebook.specs.Articles.{ean13}

-- what is found of a text: it takes a check character, or none; it is sound, or its check character is wrong; it is a right EAN-13
pub data Finding : Type 0 where
  takes : Text → Finding
  takes_none : Finding
  sound : Finding
  wrong_check : Finding
  right_ean : Finding

abbrev pub Found : Finding → Text → Type 0
Found (takes c) t = completed t ≡ Ok (t ++ c)
Found takes_none t = completed t ≡ refused CheckCharacter 0
Found sound t = read_code t ≡ Ok t
Found wrong_check t = read_code t ≡ refused CheckCharacter 0
Found right_ean t = is_right ean13 t ≡ true

abbrev pub SumsTo : Option ℕ → Text → Type 0
SumsTo None t = Unit {0}
SumsTo (Some n) t = weighted_sum eic 0 t ≡ n

pub record Case : Type 0 where
  pub texts : List Text
  pub sum : Option ℕ
  pub finding : Finding

abbrev row : List Text → Option ℕ → Finding → Case
row ts n f = record { texts = ts; sum = n; finding = f }

abbrev one : Text → List Text
one t = t ∷ []

abbrev pub cases : List Case
cases =
    row (one (codes "11XRWENET12345-")) (Some 2107) (takes (codes "2"))
    ∷ row (one (codes "10YDK-BALANCE-W")) (Some 2161) (takes (codes "M"))
    ∷ row (one (codes "9QYNORTH-------")) (Some 3597) (takes (codes "T"))
    ∷ row (one (codes "20Z12345678901E")) None (takes (codes "R"))
    ∷ row (one (codes "11Y123456789012")) None (takes (codes "T"))
    ∷ row (one (codes "9QX000000000002")) (Some 1000) takes_none
    ∷ row (one (codes "9QX00000000000K")) (Some 1036) (takes (codes "0"))
    ∷ row (one (codes "9QX000000000001")) (Some 998) (takes (codes "1"))
    ∷ row (one (codes "9QXALPHB-------9")) None wrong_check
    ∷ row (one (codes "9QXLAPHA-------9")) None wrong_check
    ∷ row (one (codes "9QX1100000000003")) None wrong_check
    ∷ row (codes "9QX0000000000011" ∷ codes "9QX0000000000003" ∷ []) None sound
    ∷ row (one (codes "4820000000017")) None right_ean
    ∷ row (codes "4820500000005" ∷ codes "4825000000005" ∷ []) None right_ean
    ∷ []

abbrev pub Settled : Case → Type 0
Settled c = AllByRecursion (λ t. SumsTo c.sum t × Found c.finding t) c.texts

abbrev pub AllSettled : Type 0
AllSettled = AllByRecursion Settled cases
