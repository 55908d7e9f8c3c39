-- Every list of calls on a register that was opened empty, with their answers.
-- A reader has to believe: a history is the list of calls and answers and nothing more; what was granted, and which line
-- is the latest, is read off it.
use Rattle.std.specs.Prelude.{◌≡◌, ℕ, zero, suc, ◌<◌, Bool, true, false, cond, List, [], ◌∷◌, length, drop, Some, None, Ok, Err, Option, Result}
use Rattle.grounds.specs.declared.Refusal.{Refusal}
use Rattle.std.specs.List.Sorted.{IsPermutation}
use Rattle.std.specs.Str.{bytes_eq}
use Rattle.rulebook.specs.Texts.{Text, viewed}
use Rattle.rulebook.specs.Records.{RegistrationTexts, Entry}
use Rattle.rulebook.specs.Requests.{Order, creates, changes, deactivates, reactivates, looks_up, asked}
use Rattle.rulebook.specs.Answers.{granted_line, refused_line, filled, told_length}
use Rattle.rulebook.specs.Outcomes.{Grant, outcome, entry_in, list_after, room_left, looked}

-- a register, by what it means
pub record State : Type 0 where
  pub office : Text
  pub entries : List Entry
  pub room : ℕ

-- whether a call was granted, or why it was refused
pub data Verdict : Type 0 where
  granted : Verdict
  refused : Refusal → Verdict

abbrev pub verdict_of : {X : Type 0} → Result X Refusal → Verdict
verdict_of (Ok x) = granted
verdict_of (Err e) = refused e

-- the answer line
abbrev pub answer_of : Result Entry Refusal → Text
answer_of (Ok e) = granted_line e
answer_of (Err f) = refused_line f

-- what a line comes to in a state, with an answer buffer
abbrev pub outcome_in : State → Text → Text → Result Grant Refusal
outcome_in s line buffer = outcome s.office s.entries s.room line (length buffer)

abbrev pub answer_in : State → Text → Text → Text
answer_in s line buffer = answer_of (viewed entry_in (outcome_in s line buffer))

-- a line and a buffer in the state s: what is told, and the buffer and the state after it
pub record Answered (s : State) (line before : Text) (v : Verdict) (n : ℕ) (after : Text) (s' : State) : Type 0 where
  pub verdict : v ≡ verdict_of (outcome_in s line before)
  pub told : n ≡ told_length (answer_in s line before) before
  pub buffer : after ≡ filled (answer_in s line before) before
  pub office : s'.office ≡ s.office
  pub entries : IsPermutation (list_after (outcome_in s line before) s.entries) s'.entries
  pub room : s'.room ≡ room_left (outcome_in s line before) s.room

-- what the look-up of a text comes to in a state
abbrev pub looked_in : State → Text → Result Entry Refusal
looked_in s text = looked s.office s.entries text

-- the caller's record after a look-up
abbrev pub shown_in : Result Entry Refusal → Entry → Entry
shown_in (Ok e) before = e
shown_in (Err f) before = before

-- a look-up in the state s: what is told, and the caller's record after it
pub record Looked (s : State) (text : Text) (before : Entry) (v : Verdict) (after : Entry) : Type 0 where
  pub verdict : v ≡ verdict_of (looked_in s text)
  pub shown : after ≡ shown_in (looked_in s text) before

-- a call and its answer: a line with its buffer before and after, or a look-up with the caller's record before and after
pub data Event : Type 0 where
  submitted : (line before : Text) (v : Verdict) (n : ℕ) (after : Text) → Event
  looked_up : (text : Text) (before : Entry) (v : Verdict) (after : Entry) → Event

-- the newest first
abbrev pub History : Type 0
History = List Event

-- the calls of h led from the state s₀ to the state s, each answered by the state at that moment
pub data Reached (s₀ : State) : History → State → Type 0 where
  opened : Reached s₀ [] s₀
  submits : {h : History} {s : State} → Reached s₀ h s → (line before : Text) (v : Verdict) (n : ℕ) (after : Text) (s' : State)
      → Answered s line before v n after s' → Reached s₀ (submitted line before v n after ∷ h) s'
  looks : {h : History} {s : State} → Reached s₀ h s → (text : Text) (before : Entry) (v : Verdict) (after : Entry)
      → Looked s text before v after → Reached s₀ (looked_up text before v after ∷ h) s

-- the event at a position of the history; later events have smaller positions
abbrev pub event_at : History → ℕ → Option Event
event_at [] i = None
event_at (e ∷ h) zero = Some e
event_at (e ∷ h) (suc i) = event_at h i

-- the events before the one at a position
abbrev pub earlier_than : ℕ → History → History
earlier_than i h = drop (suc i) h

-- what a line asks, where it is granted
abbrev pub order_in : Result Order Refusal → Option Order
order_in (Ok o) = Some o
order_in (Err f) = None

abbrev pub granted_order : Verdict → Result Order Refusal → Option Order
granted_order granted a = order_in a
granted_order (refused f) a = None

-- the order that an event granted
abbrev pub order_of : Text → Event → Option Order
order_of office (submitted line before v n after) = granted_order v (asked office line)
order_of office (looked_up text before v after) = None

-- the order that was granted at a position
abbrev pub granted_at : Text → History → ℕ → Option Order
granted_at office [] i = None
granted_at office (e ∷ h) zero = order_of office e
granted_at office (e ∷ h) (suc i) = granted_at office h i

abbrev pub by : {X : Type 0} → (Order → Option X) → Option Order → Option X
by f None = None
by f (Some o) = f o

-- x is what the latest of the granted orders that say something by f says
pub record Latest {X : Type 0} (office : Text) (h : History) (f : Order → Option X) (x : X) : Type 0 where
  pub position : ℕ
  pub said : by f (granted_at office h position) ≡ Some x
  pub last : (j : ℕ) → j < position → by f (granted_at office h j) ≡ None

abbrev pub only : {X : Type 0} → Bool → X → Option X
only b x = cond b (Some x) None

-- what a creation or change of the code c registers
abbrev pub registers : Text → Order → Option RegistrationTexts
registers c (creates d k r) = only (bytes_eq k c) r
registers c (changes d k r) = only (bytes_eq k c) r
registers c (deactivates d k) = None
registers c (reactivates d k) = None
registers c (looks_up k) = None

-- the date of a creation, change, deactivation or reactivation of the code c
abbrev pub dates : Text → Order → Option Text
dates c (creates d k r) = only (bytes_eq k c) d
dates c (changes d k r) = only (bytes_eq k c) d
dates c (deactivates d k) = only (bytes_eq k c) d
dates c (reactivates d k) = only (bytes_eq k c) d
dates c (looks_up k) = None

-- of a creation, deactivation or reactivation of the code c, that it is no deactivation
abbrev pub activates : Text → Order → Option Bool
activates c (creates d k r) = only (bytes_eq k c) true
activates c (changes d k r) = None
activates c (deactivates d k) = only (bytes_eq k c) false
activates c (reactivates d k) = only (bytes_eq k c) true
activates c (looks_up k) = None
