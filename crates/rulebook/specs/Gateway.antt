-- The three checks that the gateway calls, each answered by one number.
-- A reader has to believe: 0 says yes, a check character is told by its byte (48 or more), and a refusal by its number.
use Rattle.std.specs.Prelude.{ℕ, cond, Ok, Err, Result}
use Rattle.grounds.specs.Grounds.{number_of}
use Rattle.grounds.specs.declared.Ground.TheVariants.{FieldRule}
use Rattle.grounds.specs.declared.Refusal.{Refusal}
use Rattle.rulebook.specs.Texts.{Text}
use Rattle.rulebook.specs.Schemes.{is_right}
use Rattle.rulebook.specs.Codes.{read_code, check_character}
use Rattle.rulebook.specs.Articles.{ean13}

abbrev pub answered : {X : Type 0} → (X → ℕ) → Result X Refusal → ℕ
answered f (Ok x) = f x
answered f (Err e) = number_of e.ground

-- 0, 6 or 8
abbrev pub soundness : Text → ℕ
soundness t = answered (λ c. 0) (read_code t)

-- the check character's byte, or 6 or 8
abbrev pub check_character_number : Text → ℕ
check_character_number t = answered (λ c. c) (check_character t)

-- 0 or 9
abbrev pub ean_number : Text → ℕ
ean_number t = cond (is_right ean13 t) 0 (number_of FieldRule)
