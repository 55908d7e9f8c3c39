-- What an answer line says, and what a caller's buffer holds after it.
-- A reader has to believe: the formats of docs/LINES.md.
use Rattle.std.specs.Prelude.{ℕ, cond, List, [], ◌∷◌, ◌++◌, length, drop, codes, decimal, nat_lt}
use Rattle.grounds.specs.Grounds.{number_of}
use Rattle.grounds.specs.declared.Refusal.{Refusal}
use Rattle.rulebook.specs.Texts.{Text}
use Rattle.rulebook.specs.Records.{Entry, texts, status_text}

-- each field with a comma before it
abbrev pub tails : List Text → Text
tails [] = []
tails (f ∷ fs) = (44 ∷ f) ++ tails fs

-- the fields of the answer to a granted line
abbrev pub granted_fields : Entry → List Text
granted_fields e = e.code ∷ status_text e.active ∷ e.date ∷ texts e.registration

abbrev pub granted_line : Entry → Text
granted_line e = codes "OK" ++ tails (granted_fields e)

abbrev pub refused_line : Refusal → Text
refused_line r = codes "NO" ++ tails (decimal (number_of r.ground) ∷ decimal r.field ∷ decimal r.position ∷ [])

-- the first bytes of a buffer are replaced by a text
abbrev pub over : Text → Text → Text
over t buffer = t ++ drop (length t) buffer

-- a buffer of under 200 bytes is left as it was
abbrev pub filled : Text → Text → Text
filled t buffer = cond (nat_lt (length buffer) 200) buffer (over t buffer)

-- and the length that is told is then 0
abbrev pub told_length : Text → Text → ℕ
told_length t buffer = cond (nat_lt (length buffer) 200) 0 (length t)
