-- The texts that codes, offices and types stand for.
use Rattle.std.specs.Prelude.{ℕ, cond, [], ◌∷◌, ◌++◌, Some, None, codes, Option, ◌==◌}
use Rattle.rulebook.specs.Texts.{Text}
use Rattle.rulebook.specs.Codes.{is_type, value_of}
use Rattle.eic.specs.declared.codes.Code.{Code}
use Rattle.eic.specs.declared.codes.reading.Parts.{Parts}
use Rattle.eic.specs.declared.kinds.Kind.{Kind}
use Rattle.eic.specs.declared.kinds.Kind.TheVariants.{TieLine, ItSystem, Resource, Party, Zone, MeteringPoint}
use Rattle.eic.specs.declared.offices.Office.{Office}

-- the value of a character, where it has one
abbrev pub value_if_any : ℕ → Option ℕ
value_if_any b = cond (value_of b == 255) None (Some (value_of b))

abbrev pub letter_of : Kind → ℕ
letter_of TieLine = 84
letter_of ItSystem = 86
letter_of Resource = 87
letter_of Party = 88
letter_of Zone = 89
letter_of MeteringPoint = 90

abbrev pub kind_words : Kind → Text
kind_words TieLine = codes "tie line"
kind_words ItSystem = codes "IT system"
kind_words Resource = codes "resource"
kind_words Party = codes "party"
kind_words Zone = codes "zone"
kind_words MeteringPoint = codes "metering point"

-- the type letter, where it is one
abbrev pub kind_read : ℕ → Option ℕ
kind_read letter = cond (is_type letter) (Some letter) None

abbrev pub code_text : Code → Text
code_text c = c.bytes

abbrev pub office_text : Office → Text
office_text o = o.characters

-- the parts of a code, put together again
abbrev pub whole_text : Parts → Text
whole_text p = office_text p.office ++ (letter_of p.kind ∷ (p.rest ++ (p.check ∷ [])))
