-- What a reader of a record's answer finds.
use Rattle.std.specs.Prelude.{◌≡◌, ◌∷◌, drop, Ok, codes}
use Rattle.rulebook.specs.Texts.{Text, fields}
use Rattle.rulebook.specs.Records.{Entry, texts}
use Rattle.rulebook.specs.Requests.{Order, asked, texts_of}
use Rattle.rulebook.specs.Answers.{granted_fields, granted_line}

-- the fields of the answer line are the record's own texts
abbrev pub ReadsBack : Entry → Type 0
ReadsBack e = fields (granted_line e) ≡ codes "OK" ∷ granted_fields e

-- whatever line its registration was read from, the eight texts come back as they stood there
abbrev pub ReadFrom : Entry → Type 0
ReadFrom e =
    (office line : Text) (o : Order) → asked office line ≡ Ok o → drop 2 (texts_of o) ≡ texts e.registration →
    drop 4 (fields (granted_line e)) ≡ drop 3 (fields line)
