-- The number and the words of each ground for refusal, case by case, and what a refusal tells.
-- A reader has to believe: these numbers and words are the ones that docs/ list.
use Rattle.std.specs.Prelude.{ℕ, Bool, cond, ◌&&◌, List, codes, ◌==◌}
use Rattle.grounds.specs.declared.Ground.{Ground}
use Rattle.grounds.specs.declared.Ground.TheVariants.{Buffer, LineLength, Action, FieldCount, Date, CodeForm, OtherOffice, CheckCharacter, FieldRule, AlreadyIssued, NotRegistered, StatusForbids, EarlierDate, OtherHolder, ObjectHasCode, NameHeld, NamedCode, NoRoom}
use Rattle.grounds.specs.declared.Refusal.{Refusal}

abbrev pub number_of : Ground → ℕ
number_of Buffer = 1
number_of LineLength = 2
number_of Action = 3
number_of FieldCount = 4
number_of Date = 5
number_of CodeForm = 6
number_of OtherOffice = 7
number_of CheckCharacter = 8
number_of FieldRule = 9
number_of AlreadyIssued = 10
number_of NotRegistered = 11
number_of StatusForbids = 12
number_of EarlierDate = 13
number_of OtherHolder = 14
number_of ObjectHasCode = 15
number_of NameHeld = 16
number_of NamedCode = 17
number_of NoRoom = 18

abbrev pub words_of : Ground → List ℕ
words_of Buffer = codes "answer buffer is under 200 bytes"
words_of LineLength = codes "line is empty or over 194 bytes"
words_of Action = codes "action is not C, U, D, R or L"
words_of FieldCount = codes "number of fields does not fit the action"
words_of Date = codes "date is not a day from 2000-01-01 to 2099-12-31"
words_of CodeForm = codes "character is not lawful at its place"
words_of OtherOffice = codes "office is not this office or not an office"
words_of CheckCharacter = codes "check character does not fit"
words_of FieldRule = codes "field breaks its rule"
words_of AlreadyIssued = codes "code is already issued"
words_of NotRegistered = codes "code is not on the register"
words_of StatusForbids = codes "status forbids the action"
words_of EarlierDate = codes "date is before the record's"
words_of OtherHolder = codes "object or function differs from the record's"
words_of ObjectHasCode = codes "object has a code in this function"
words_of NameHeld = codes "display name is held by another record of the type"
words_of NamedCode = codes "parent or responsible party may not be named"
words_of NoRoom = codes "store has no room"

-- a refusal on this ground, in this field, at this position
abbrev pub in_field : (field : ℕ) (ground : Ground) (position : ℕ) → Refusal
in_field k g p = record { ground = g; field = k; position = p }

abbrev pub is_code_form : Ground → Bool
is_code_form g = number_of g == 6

-- what a refusal means: a code that has no unlawful character to show has a wrong length
abbrev pub refusal_words : Refusal → List ℕ
refusal_words r = cond (is_code_form r.ground && r.position == 0) (codes "code does not have the due length") (words_of r.ground)
