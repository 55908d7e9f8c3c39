-- What holds after every list of calls: single holders, misread codes, lasting records.
-- A reader has to believe: this is the office's law.
use Rattle.std.specs.Prelude.{◌≡◌, ℕ, Bool, true, false, ◌||◌, [], ◌∷◌, Some, Ok, ◌==◌}
use Rattle.grounds.specs.Grounds.{number_of}
use Rattle.rulebook.specs.Texts.{Text}
use Rattle.rulebook.specs.Codes.{is_sound}
use Rattle.rulebook.specs.Misreading.{Misread}
use Rattle.rulebook.specs.Records.{RegistrationTexts, Entry}
use Rattle.rulebook.specs.Requests.{creates}
use Rattle.rulebook.specs.Histories.{State, Verdict, granted, refused, verdict_of, Event, looked_up, History, Reached, event_at, earlier_than, looked_in, granted_at, by, Latest, registers, dates, activates}

-- at this position of the history a creation of the code c was granted
abbrev pub CreatedAt : Text → History → ℕ → Text → Text → RegistrationTexts → Type 0
CreatedAt office h i d c r = granted_at office h i ≡ Some (creates d c r)

-- a code is issued from its granted creation on, for ever
pub record Issued (office : Text) (h : History) (c : Text) : Type 0 where
  pub position : ℕ
  pub date : Text
  pub registration : RegistrationTexts
  pub created : CreatedAt office h position date c registration

-- the code c names this object and function: in its granted creation or in a granted change
pub record Names (office : Text) (h : History) (c o f : Text) : Type 0 where
  pub position : ℕ
  pub registration : RegistrationTexts
  pub granted : by (registers c) (granted_at office h position) ≡ Some registration
  pub object : registration.object ≡ o
  pub function : registration.function ≡ f

-- the object in this function receives the code c, by the creation
pub record Receives (office : Text) (h : History) (o f c : Text) : Type 0 where
  pub position : ℕ
  pub date : Text
  pub registration : RegistrationTexts
  pub created : CreatedAt office h position date c registration
  pub object : registration.object ≡ o
  pub function : registration.function ≡ f

-- refused with 6, 7 or 8
abbrev pub is_refused_as_code : Verdict → Bool
is_refused_as_code granted = false
is_refused_as_code (refused f) = number_of f.ground == 6 || (number_of f.ground == 7 || number_of f.ground == 8)

-- e is the record of the code c after the history h: the registration of its latest granted creation or change, the date
-- of its latest granted line, and active exactly if its latest granted creation, deactivation or reactivation was no
-- deactivation
pub record RecordOf (office : Text) (h : History) (c : Text) (e : Entry) : Type 0 where
  pub code : e.code ≡ c
  pub registration : Latest office h (registers c) e.registration
  pub date : Latest office h (dates c) e.date
  pub active : Latest office h (activates c) e.active

-- a look-up of the code c shows its record
pub record Shows (h : History) (s : State) (c : Text) : Type 0 where
  pub entry : Entry
  pub shows : looked_in s c ≡ Ok entry
  pub is : RecordOf s.office h c entry

-- a look-up of the text t shows no record
pub record Unread (s : State) (t : Text) : Type 0 where
  pub unsound : is_sound t ≡ false
  pub refused : is_refused_as_code (verdict_of (looked_in s t)) ≡ true

-- a look-up of the text t that was made after the history h: of an issued code it showed its record, and of a misread
-- one it was refused and left the caller's record as it was
pub record WasLookedUp (office : Text) (h : History) (t : Text) (before : Entry) (v : Verdict) (after : Entry) : Type 0 where
  pub issued : Issued office h t → (v ≡ granted) × RecordOf office h t after
  pub misread : (c : Text) → Issued office h c → Misread c t → (is_refused_as_code v ≡ true) × (after ≡ before)

pub record Lasting (h : History) (s : State) : Type 0 where
  -- single holders: a code is created once, never names a second object or function, and no object in one function
  -- receives a second code
  pub created_once : (i j : ℕ) (c d d' : Text) (r r' : RegistrationTexts) → CreatedAt s.office h i d c r → CreatedAt s.office h j d' c r' → i ≡ j
  pub one_holder : (c o f o' f' : Text) → Names s.office h c o f → Names s.office h c o' f' → (o ≡ o') × (f ≡ f')
  pub one_code : (o f c c' : Text) → Receives s.office h o f c → Receives s.office h o f c' → c ≡ c'
  -- misread codes: no text misread from an issued code is sound, and its look-up is refused
  pub misread : (c t : Text) → Issued s.office h c → Misread c t → Unread s t
  -- lasting records: a look-up of an issued code shows its record
  pub lasts : (c : Text) → Issued s.office h c → Shows h s c
  -- and so did every look-up that was made
  pub looks : (i : ℕ) (t : Text) (before : Entry) (v : Verdict) (after : Entry) → event_at h i ≡ Some (looked_up t before v after)
      → WasLookedUp s.office (earlier_than i h) t before v after

-- the event carries every history on from the state s to s' and, where the history began with no records, the law holds
-- of the longer one
abbrev pub Carries : State → Event → State → Type 0
Carries s e s' = (s₀ : State) (h : History) → Reached s₀ h s → Reached s₀ (e ∷ h) s' × (s₀.entries ≡ [] → Lasting (e ∷ h) s')
