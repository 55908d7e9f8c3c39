-- What a request line and a look-up come to, of the records held and the room left.
-- A reader has to believe: the table of moves, and that the grounds are looked at in the order of their numbers as far
-- as the action has them, as docs/REGISTER.md says.
use Rattle.std.specs.Prelude.{◌≡◌, ℕ, ◌-◌, Bool, true, false, cond, not, ◌&&◌, ◌||◌, List, ◌∷◌, Some, None, Ok, Err, Option, Result, ◌==◌, nat_lt}
use Rattle.grounds.specs.Grounds.{in_field}
use Rattle.grounds.specs.declared.Ground.{Ground}
use Rattle.grounds.specs.declared.Ground.TheVariants.{Buffer, AlreadyIssued, NotRegistered, StatusForbids, EarlierDate, OtherHolder, ObjectHasCode, NameHeld, NamedCode, NoRoom}
use Rattle.grounds.specs.declared.Refusal.{Refusal}
use Rattle.std.specs.Str.{bytes_eq}
use Rattle.rulebook.specs.Texts.{Text, is_blank, onward}
use Rattle.rulebook.specs.Codes.{is_party, read_code_for}
use Rattle.rulebook.specs.Dates.{is_earlier}
use Rattle.rulebook.specs.Records.{RegistrationTexts, Entry}
use Rattle.rulebook.specs.Requests.{Order, creates, changes, deactivates, reactivates, looks_up, asked}
use Rattle.rulebook.specs.Entries.{find, is_held, replacing, has_holder, has_namesake}

pub data Action : Type 0 where
  creation : Action
  change : Action
  deactivation : Action
  reactivation : Action

-- the table of moves: by the status of the record with the code (none, active or not) and the action, the status after
-- it, or the ground on which the action is refused
abbrev pub moved : Option Bool → Action → Result Bool Ground
moved None creation = Ok true
moved None change = Err NotRegistered
moved None deactivation = Err NotRegistered
moved None reactivation = Err NotRegistered
moved (Some true) creation = Err AlreadyIssued
moved (Some true) change = Ok true
moved (Some true) deactivation = Ok false
moved (Some true) reactivation = Err StatusForbids
moved (Some false) creation = Err AlreadyIssued
moved (Some false) change = Err StatusForbids
moved (Some false) deactivation = Err StatusForbids
moved (Some false) reactivation = Ok true

abbrev pub status_in : Option Entry → Option Bool
status_in None = None
status_in (Some e) = Some e.active

-- a ground found in field k
abbrev pub grounded : {X : Type 0} → ℕ → Result X Ground → Result X Refusal
grounded k (Ok x) = Ok x
grounded k (Err g) = Err (in_field k g 0)

-- the status after an action on the code of field 3
abbrev pub moving : Action → Option Entry → Result Bool Refusal
moving a found = grounded 3 (moved (status_in found) a)

-- go on with the record found, or refuse in field k
abbrev pub held : {X : Type 0} → ℕ → Option Entry → (Entry → Result X Refusal) → Result X Refusal
held k None f = Err (in_field k NotRegistered 0)
held k (Some e) f = f e

-- a ground that is met, in field k
abbrev pub ground_if : Bool → Ground → ℕ → Option Refusal
ground_if b g k = cond b (Some (in_field k g 0)) None

-- the first of two grounds that is met
abbrev pub first : Option Refusal → Option Refusal → Option Refusal
first None f = f
first (Some e) f = Some e

-- refuse if a ground is met, or go on
abbrev pub refusing : {X : Type 0} → Option Refusal → Result X Refusal → Result X Refusal
refusing None r = r
refusing (Some e) r = Err e

-- object or function differs from the record's
unfoldable pub other_holder : RegistrationTexts → RegistrationTexts → Option Refusal
other_holder r kept =
    first (ground_if (not (bytes_eq r.object kept.object)) OtherHolder 4)
    (ground_if (not (bytes_eq r.function kept.function)) OtherHolder 5)

abbrev pub is_active : Option Entry → Bool
is_active None = false
is_active (Some e) = e.active

-- the code c may name p: blank, or an active record's code other than c
unfoldable pub may_name : Text → Text → List Entry → Bool
may_name c p es = is_blank p || (is_active (find p es) && not (bytes_eq p c))

-- display name, parent and responsible party
unfoldable pub misfit : List Entry → Text → RegistrationTexts → Option Refusal
misfit es c r =
    first (ground_if (has_namesake c r.display es) NameHeld 7)
    (first (ground_if (not (may_name c r.parent es)) NamedCode 8)
    (ground_if (not (may_name c r.responsible es && (is_blank r.responsible || is_party r.responsible))) NamedCode 9))

abbrev pub entry : Text → Bool → Text → RegistrationTexts → Entry
entry c active d r = record { code = c; active = active; date = d; registration = r }

-- what a granted line does: it makes a record, changes one, or shows one
pub data Grant : Type 0 where
  created : Entry → Grant
  revised : Entry → Grant
  shown : Entry → Grant

-- a grant fits the records: a new record's code is not held, and a revised record's is
abbrev pub Fitting : List Entry → Grant → Type 0
Fitting es (created e) = is_held e.code es ≡ false
Fitting es (revised e) = is_held e.code es ≡ true
Fitting es (shown e) = Unit {0}

-- a deactivation or reactivation, which leaves the registration
abbrev pub restated : List Entry → Action → Text → Text → Result Grant Refusal
restated es a d c =
    onward (moving a (find c es)) (λ active.
    held 3 (find c es) (λ e.
    refusing (ground_if (is_earlier d e.date) EarlierDate 2)
    (Ok (revised (entry c active d e.registration)))))

-- what an order comes to, room aside
abbrev pub decided : List Entry → Order → Result Grant Refusal
decided es (creates d c r) =
    onward (moving creation (find c es)) (λ active.
    refusing (ground_if (has_holder r.object r.function es) ObjectHasCode 4)
    (refusing (misfit es c r)
    (Ok (created (entry c active d r)))))
decided es (changes d c r) =
    onward (moving change (find c es)) (λ active.
    held 3 (find c es) (λ e.
    refusing (ground_if (is_earlier d e.date) EarlierDate 2)
    (refusing (other_holder r e.registration)
    (refusing (misfit es c r)
    (Ok (revised (entry c active d r)))))))
decided es (deactivates d c) = restated es deactivation d c
decided es (reactivates d c) = restated es reactivation d c
decided es (looks_up c) = held 2 (find c es) (λ e. Ok (shown e))

-- what a line comes to, room and buffer aside
abbrev pub judged : Text → List Entry → Text → Result Grant Refusal
judged office es line = onward (asked office line) (decided es)

-- a new record takes room
abbrev pub roomed : ℕ → Grant → Result Grant Refusal
roomed room (created e) = refusing (ground_if (room == 0) NoRoom 0) (Ok (created e))
roomed room (revised e) = Ok (revised e)
roomed room (shown e) = Ok (shown e)

-- what a line comes to, with an answer buffer of so many bytes
abbrev pub outcome : Text → List Entry → ℕ → Text → ℕ → Result Grant Refusal
outcome office es room line size =
    refusing (ground_if (nat_lt size 200) Buffer 0) (onward (judged office es line) (roomed room))

-- the record that the answer to a granted line tells
abbrev pub entry_in : Grant → Entry
entry_in (created e) = e
entry_in (revised e) = e
entry_in (shown e) = e

-- the records after a line, in some order
abbrev pub list_by : Grant → List Entry → List Entry
list_by (created e) es = e ∷ es
list_by (revised e) es = replacing e es
list_by (shown e) es = es

abbrev pub list_after : Result Grant Refusal → List Entry → List Entry
list_after (Ok g) es = list_by g es
list_after (Err f) es = es

abbrev pub room_by : Grant → ℕ → ℕ
room_by (created e) room = room - 1
room_by (revised e) room = room
room_by (shown e) room = room

abbrev pub room_left : Result Grant Refusal → ℕ → ℕ
room_left (Ok g) room = room_by g room
room_left (Err f) room = room

-- what the look-up of a text comes to
abbrev pub looked : Text → List Entry → Text → Result Entry Refusal
looked office es t = onward (read_code_for office t) (λ c. held 0 (find c es) (λ e. Ok e))
