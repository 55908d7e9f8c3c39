-- The shipped session and the examples of the grounds, settled by the definitions; and the session's history, as the
-- definitions of the law read it. These pin the definitions from outside: a reader can compare them with docs/.
use Rattle.std.specs.Prelude.{◌≡◌, ℕ, false, List, [], ◌∷◌, replicate, codes}
use Rattle.grounds.specs.Grounds.{in_field}
use Rattle.grounds.specs.declared.Ground.TheVariants.{CheckCharacter, ObjectHasCode}
use Rattle.std.specs.List.Sorted.{IsPermutation}
use Rattle.rulebook.specs.Texts.{Text}
use Rattle.rulebook.specs.Misreading.{Misread}
use Rattle.rulebook.specs.Records.{RegistrationTexts, Entry}
use Rattle.rulebook.specs.Outcomes.{list_after, room_left}
use Rattle.rulebook.specs.Histories.{State, granted, refused, outcome_in, answer_in, Event, submitted, History, Latest, registers, dates, activates}
use Rattle.rulebook.specs.Lasting.{Issued, Names}

-- a buffer of 200 bytes
abbrev pub buffer : Text
buffer = replicate 200 0

-- the state after a line, a new record first
abbrev pub state_after : State → Text → State
state_after s line = record { office = s.office; entries = list_after (outcome_in s line buffer) s.entries; room = room_left (outcome_in s line buffer) s.room }

-- the answer lines to lines, one after the other
abbrev pub answers_to : State → List Text → List Text
answers_to s [] = []
answers_to s (line ∷ lines) = answer_in s line buffer ∷ answers_to (state_after s line) lines

-- the answer lines to lines, each asked of the same state
abbrev pub answers_in : State → List Text → List Text
answers_in s [] = []
answers_in s (line ∷ lines) = answer_in s line buffer ∷ answers_in s lines

abbrev pub empty_with : ℕ → State
empty_with room = record { office = codes "9Q"; entries = []; room = room }

abbrev pub create_alpha : Text
create_alpha = codes "C,2026-03-01,9QXALPHA-------9,17,1,Alpha Energy,ALPHA,,,UA123,4820000000017"

abbrev pub create_north : Text
create_north = codes "C,2026-03-02,9QYNORTH-------T,18,5,North zone,NORTH,,9QXALPHA-------9,,"

abbrev pub misread_alpha : Text
misread_alpha = codes "L,9QXALPHB-------9"

abbrev pub deactivate_alpha : Text
deactivate_alpha = codes "D,2026-03-03,9QXALPHA-------9"

abbrev pub create_again : Text
create_again = codes "C,2026-03-04,9QX0000000000011,17,1,Again,AGAIN,,,,"

abbrev pub session : List Text
session = create_alpha ∷ create_north ∷ misread_alpha ∷ deactivate_alpha ∷ create_again ∷ []

abbrev pub session_answers : List Text
session_answers =
    codes "OK,9QXALPHA-------9,A,2026-03-01,17,1,Alpha Energy,ALPHA,,,UA123,4820000000017"
    ∷ codes "OK,9QYNORTH-------T,A,2026-03-02,18,5,North zone,NORTH,,9QXALPHA-------9,,"
    ∷ codes "NO,8,2,0"
    ∷ codes "OK,9QXALPHA-------9,I,2026-03-03,17,1,Alpha Energy,ALPHA,,,UA123,4820000000017"
    ∷ codes "NO,15,4,0"
    ∷ []

-- after the session's first two lines, with room for so many more
abbrev pub two_held : ℕ → State
two_held room = record { office = codes "9Q"; entries = (state_after (state_after (empty_with 256) create_alpha) create_north).entries; room = room }

-- one example for each ground from 2 to 17
abbrev pub examples : List Text
examples =
    []
    ∷ codes "Q,9QXALPHA-------9"
    ∷ codes "D,2026-03-05"
    ∷ codes "D,2026-02-30,9QXALPHA-------9"
    ∷ codes "L,9QXALPHa-------9"
    ∷ codes "L,11XRWENET12345-2"
    ∷ codes "L,9QXALPHB-------9"
    ∷ codes "U,2026-03-05,9QXALPHA-------9,17,100,A,ALPHA,,,,"
    ∷ codes "C,2026-03-05,9QXALPHA-------9,19,1,B,B,,,,"
    ∷ codes "L,9QX0000000000011"
    ∷ codes "R,2026-03-05,9QXALPHA-------9"
    ∷ codes "D,2026-02-28,9QXALPHA-------9"
    ∷ codes "U,2026-03-05,9QXALPHA-------9,18,1,A,ALPHA,,,,"
    ∷ codes "C,2026-03-05,9QX0000000000011,17,1,B,B,,,,"
    ∷ codes "C,2026-03-05,9QX0000000000011,19,1,B,ALPHA,,,,"
    ∷ codes "C,2026-03-05,9QX0000000000011,19,1,B,B,9QX000000000003Y,,,"
    ∷ []

abbrev pub example_answers : List Text
example_answers =
    codes "NO,2,0,0"
    ∷ codes "NO,3,1,0"
    ∷ codes "NO,4,0,0"
    ∷ codes "NO,5,2,0"
    ∷ codes "NO,6,2,8"
    ∷ codes "NO,7,2,0"
    ∷ codes "NO,8,2,0"
    ∷ codes "NO,9,5,0"
    ∷ codes "NO,10,3,0"
    ∷ codes "NO,11,2,0"
    ∷ codes "NO,12,3,0"
    ∷ codes "NO,13,2,0"
    ∷ codes "NO,14,4,0"
    ∷ codes "NO,15,4,0"
    ∷ codes "NO,16,7,0"
    ∷ codes "NO,17,8,0"
    ∷ []

pub record SessionSettled : Type 0 where
  pub session : answers_to (empty_with 256) session ≡ session_answers
  pub examples : answers_in (two_held 254) examples ≡ example_answers
  -- and for 18, with no room
  pub full : answers_in (two_held 0) (codes "C,2026-03-05,9QX0000000000011,19,1,B,B,,,," ∷ []) ≡ codes "NO,18,0,0" ∷ []

-- the session as a history, the newest first; buffers and lengths play no part in what follows
abbrev pub was_granted : Text → Event
was_granted line = submitted line [] granted 0 []

abbrev pub session_history : History
session_history =
    submitted create_again [] (refused (in_field 4 ObjectHasCode 0)) 0 []
    ∷ was_granted deactivate_alpha
    ∷ submitted misread_alpha [] (refused (in_field 2 CheckCharacter 0)) 0 []
    ∷ was_granted create_north
    ∷ was_granted create_alpha
    ∷ []

abbrev pub alpha : Text
alpha = codes "9QXALPHA-------9"

abbrev pub alpha_registration : RegistrationTexts
alpha_registration = record {
  object = codes "17";
  function = codes "1";
  name = codes "Alpha Energy";
  display = codes "ALPHA";
  parent = [];
  responsible = [];
  vat = codes "UA123";
  ean = codes "4820000000017";
}

pub record HistorySettled : Type 0 where
  -- the code is issued, for the object 17 in the function 1
  pub issued : Issued (codes "9Q") session_history alpha
  pub names : Names (codes "9Q") session_history alpha (codes "17") (codes "1")
  -- its latest registration, date and status
  pub registration : Latest (codes "9Q") session_history (registers alpha) alpha_registration
  pub date : Latest (codes "9Q") session_history (dates alpha) (codes "2026-03-03")
  pub active : Latest (codes "9Q") session_history (activates alpha) false
  -- a code whose creation was refused is not issued
  pub unissued : Issued (codes "9Q") session_history (codes "9QX0000000000011") → ⊥
  -- one character replaced, two exchanged, two equal ones replaced by one other
  pub replaced : Misread alpha (codes "9QXALPHB-------9")
  pub exchanged : Misread alpha (codes "9QXLAPHA-------9")
  pub twinned : Misread (codes "9QX0000000000011") (codes "9QX1100000000011")
  -- records in another order
  pub shuffled : (e f : Entry) → IsPermutation (e ∷ f ∷ []) (f ∷ e ∷ [])
