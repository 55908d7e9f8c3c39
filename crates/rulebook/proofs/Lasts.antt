-- What every list of calls keeps, and so the office's law. Assumes nothing.
use Rattle.std.proofs.Common.{◌≡◌, ℕ, zero, suc, ◌<◌, Bool, true, false, cond, ◌⊎◌, List, [], ◌∷◌, length, Some, None, Ok, Err, Option, Result, sym, refl, ap, ◌∙◌, subst, inl, inr, ⊎_elim, arith}
use Rattle.grounds.specs.declared.Refusal.{Refusal}
use Rattle.std.specs.Str.{bytes_eq}
use Rattle.std.proofs.lemmas.Bool.{both_ways, and_from, cases_order, cond-true}
use Rattle.rulebook.specs.Texts.{Text}
use Rattle.rulebook.specs.Codes.{read_code_for}
use Rattle.rulebook.specs.Records.{RegistrationTexts, Entry}
use Rattle.rulebook.specs.Requests.{Order, creates, changes, deactivates, reactivates, looks_up}
use Rattle.rulebook.specs.Entries.{find, Apart, is_holder, has_holder}
use Rattle.rulebook.specs.Outcomes.{entry}
use Rattle.rulebook.specs.Histories.{State, Verdict, verdict_of, Answered, Looked, shown_in, Event, submitted, looked_up, History, Reached, opened, submits, looks, event_at, earlier_than, outcome_in, looked_in, order_of, granted_at, by, only, Latest, registers, dates, activates}
use Rattle.rulebook.specs.Lasting.{CreatedAt, Issued, is_refused_as_code, RecordOf, Shows, WasLookedUp, Lasting, Carries}
use Rattle.rulebook.proofs.Entries.{same_true, same_from, none_some, some_inj, find_some}
use Rattle.rulebook.proofs.Puts.{any_has}
use Rattle.rulebook.proofs.Grants.{holder, Same, Put, New, Over, Done, outcome_done}
use Rattle.rulebook.proofs.Latests.{or_else, latest_more}
use Rattle.rulebook.proofs.Misreads.{misread_unread}
use Rattle.rulebook.proofs.Coded.{issued_coded}

-- what a record says, where there is one
abbrev saying : {X : Type 0} → (Entry → X) → Option Entry → Option X
saying v None = None
saying v (Some e) = Some (v e)

saying_some : {X : Type 0} (v : Entry → X) (o : Option Entry) (x : X) → saying v o ≡ Some x → (y : Entry) × (o ≡ Some y) × (v y ≡ x)
saying_some v None x e = absurd (none_some x e)
saying_some v (Some y) x e = (y, refl, some_inj (v y) x e)

-- what the records say after an order is what the order says by f, else what they said
abbrev Follows : {X : Type 0} → (Entry → X) → (Text → Order → Option X) → List Entry → List Entry → Option Order → Type 0
Follows v f es es' w = (c : Text) → saying v (find c es') ≡ or_else (by (f c) w) (saying v (find c es))

abbrev holder_of : Entry → Text × Text
holder_of e = holder e.registration

-- the code c is held for this object and function
abbrev Holding : List Entry → Text → Text × Text → Type 0
Holding es c p = saying holder_of (find c es) ≡ Some p

-- one code, or one holder
abbrev Clash : Text → RegistrationTexts → Text → RegistrationTexts → Type 0
Clash c r c' r' = (c ≡ c') ⊎ (holder r ≡ holder r')

-- ---- what one order leaves of what the records say
module _ (es es' : List Entry) where
  module _ {X : Type 0} (v : Entry → X) (c : Text) where
    said_by : (x : Entry) (b : Bool) → saying v (cond b (Some x) (find c es)) ≡ or_else (only b (v x)) (saying v (find c es))
    said_by x true = refl
    said_by x false = refl

    -- the order says something new
    says : (x : Entry) → Put es es' x → saying v (find c es') ≡ or_else (only (bytes_eq x.code c) (v x)) (saying v (find c es))
    says x p = ap (saying v) (p c) ∙ said_by x (bytes_eq x.code c)

    silent_by : (x y : Entry) → find x.code es ≡ Some y → v x ≡ v y → (b : Bool) → bytes_eq x.code c ≡ b → saying v (cond b (Some x) (find c es)) ≡ saying v (find c es)
    silent_by x y f q true t = ap Some q ∙ ap (saying v) (sym f ∙ ap (λ (z : Text). find z es) (same_true x.code c t))
    silent_by x y f q false t = refl

    -- the order leaves what was said
    silent : (x y : Entry) → Over es es' x y → v x ≡ v y → saying v (find c es') ≡ saying v (find c es)
    silent x y o q = ap (saying v) (o.put c) ∙ silent_by x y o.found q (bytes_eq x.code c) refl

    unsaid : Same es es' → saying v (find c es') ≡ saying v (find c es)
    unsaid s = ap (saying v) (s c)

  registered : (w : Option Order) → Done es es' w → Follows (λ e. e.registration) registers es es' w
  registered None m c = unsaid _ c m
  registered (Some (creates d k r)) m c = says _ c (entry k true d r) m.put
  registered (Some (changes d k r)) m c = says _ c (entry k true d r) m.2.put
  registered (Some (deactivates d k)) m c = silent _ c _ m.0 m.1 refl
  registered (Some (reactivates d k)) m c = silent _ c _ m.0 m.1 refl
  registered (Some (looks_up k)) m c = unsaid _ c m

  dated : (w : Option Order) → Done es es' w → Follows (λ e. e.date) dates es es' w
  dated None m c = unsaid _ c m
  dated (Some (creates d k r)) m c = says _ c (entry k true d r) m.put
  dated (Some (changes d k r)) m c = says _ c (entry k true d r) m.2.put
  dated (Some (deactivates d k)) m c = says _ c (entry k false d m.0.registration) m.1.put
  dated (Some (reactivates d k)) m c = says _ c (entry k true d m.0.registration) m.1.put
  dated (Some (looks_up k)) m c = unsaid _ c m

  activated : (w : Option Order) → Done es es' w → Follows (λ e. e.active) activates es es' w
  activated None m c = unsaid _ c m
  activated (Some (creates d k r)) m c = says _ c (entry k true d r) m.put
  activated (Some (changes d k r)) m c = silent _ c _ m.0 m.2 (sym m.1)
  activated (Some (deactivates d k)) m c = says _ c (entry k false d m.0.registration) m.1.put
  activated (Some (reactivates d k)) m c = says _ c (entry k true d m.0.registration) m.1.put
  activated (Some (looks_up k)) m c = unsaid _ c m

  -- a new code was not held
  not_held : {x : Entry} {c : Text} {p : Text × Text} → New es es' x → x.code ≡ c → Holding es c p → ⊥
  not_held {x} {c} {p} n e h = none_some p (ap (saying holder_of) (sym n.unheld ∙ ap (λ (z : Text). find z es) e) ∙ h)

  new_keeps : {x : Entry} (c : Text) (p : Text × Text) (b : Bool) → New es es' x → Holding es c p → bytes_eq x.code c ≡ b → saying holder_of (cond b (Some x) (find c es)) ≡ Some p
  new_keeps {x} c p true n h t = absurd (not_held n (same_true x.code c t) h)
  new_keeps {x} c p false n h t = h

  keeps : (w : Option Order) (c : Text) (p : Text × Text) → Done es es' w → Holding es c p → Holding es' c p
  keeps None c p m h = unsaid _ c m ∙ h
  keeps (Some (creates d k r)) c p m h = ap (saying holder_of) (m.put c) ∙ new_keeps c p (bytes_eq k c) m h refl
  keeps (Some (changes d k r)) c p m h = silent _ c _ m.0 m.2 m.2.holds ∙ h
  keeps (Some (deactivates d k)) c p m h = silent _ c _ m.0 m.1 refl ∙ h
  keeps (Some (reactivates d k)) c p m h = silent _ c _ m.0 m.1 refl ∙ h
  keeps (Some (looks_up k)) c p m h = unsaid _ c m ∙ h

  -- a creation clashes with no code that is held
  no_clash : (d c c' : Text) (r r' : RegistrationTexts) → New es es' (entry c true d r) → Holding es c' (holder r') → Clash c r c' r' → ⊥
  unfolding has_holder
  no_clash d c c' r r' n h (inl e) = not_held n e h
  no_clash d c c' r r' n h (inr e) =
      let y = saying_some holder_of (find c' es) (holder r') h in
      let is : holder_of y.0 ≡ holder r = y.2 ∙ sym e in
      both_ways (has_holder r.object r.function es) n.free
      (any_has (is_holder r.object r.function) es y.0 (find_some c' es y.0 y.1).0
      (and_from _ _ (same_from _ _ (ap (λ (q : Text × Text). q.0) is)) (same_from _ _ (ap (λ (q : Text × Text). q.1) is))))

-- ---- what the induction carries
-- what the records say by v is what the latest order that says something by f says
abbrev Tells : {X : Type 0} → (Entry → X) → (Text → Order → Option X) → Text → History → List Entry → Type 0
Tells {X} v f office h es = (c : Text) (x : X) → saying v (find c es) ≡ Some x → Latest office h (f c) x

record Kept (office : Text) (h : History) (es : List Entry) : Type 0 where
  apart : Apart es
  registration : Tells (λ e. e.registration) registers office h es
  date : Tells (λ e. e.date) dates office h es
  active : Tells (λ e. e.active) activates office h es
  holds : (i : ℕ) (c : Text) (r : RegistrationTexts) → by (registers c) (granted_at office h i) ≡ Some r → Holding es c (holder r)
  fresh : (i j : ℕ) (c c' d d' : Text) (r r' : RegistrationTexts) → i < j → CreatedAt office h i d c r → CreatedAt office h j d' c' r' → Clash c r c' r' → ⊥

-- a creation registers
creation_registers : {w : Option Order} {d c : Text} {r : RegistrationTexts} → w ≡ Some (creates d c r) → by (registers c) w ≡ Some r
creation_registers {w} {d} {c} {r} p = ap (by (registers c)) p ∙ cond-true (bytes_eq c c) (Some r) None (same_from c c refl)

module _ (office : Text) (e : Event) (h : History) (es es' : List Entry) (k : Kept office h es) (m : Done es es' (order_of office e)) where
  tells_more : {X : Type 0} (v : Entry → X) (f : Text → Order → Option X) → Follows v f es es' (order_of office e) → Tells v f office h es → Tells v f office (e ∷ h) es'
  tells_more v f p t c x q = latest_more office (f c) e h x (by (f c) (order_of office e)) (saying v (find c es)) refl (sym (p c) ∙ q) (t c x)

  holds_more : (i : ℕ) (c : Text) (r : RegistrationTexts) → by (registers c) (granted_at office (e ∷ h) i) ≡ Some r → Holding es' c (holder r)
  holds_more zero c r q =
      let y = saying_some _ (find c es') r (registered es es' (order_of office e) m c ∙ ap (λ z. or_else z (saying (λ e. e.registration) (find c es))) q) in
      ap (saying holder_of) y.1 ∙ ap (λ z. Some (holder z)) y.2
  holds_more (suc i) c r q = keeps es es' (order_of office e) c (holder r) m (k.holds i c r q)

  fresh_more : (i j : ℕ) (c c' d d' : Text) (r r' : RegistrationTexts) → i < j → CreatedAt office (e ∷ h) i d c r → CreatedAt office (e ∷ h) j d' c' r' → Clash c r c' r' → ⊥
  fresh_more zero (suc j) c c' d d' r r' lt p q = no_clash es es' d c c' r r' (subst (Done es es') p m) (k.holds j c' r' (creation_registers q))
  fresh_more (suc i) (suc j) c c' d d' r r' lt p q = k.fresh i j c c' d d' r r' (omega arith) p q
  fresh_more i zero c c' d d' r r' lt p q = absurd (omega arith)

  kept_more : Apart es' → Kept office (e ∷ h) es'
  kept_more a = record {
    apart = a;
    registration = tells_more _ registers (registered es es' (order_of office e) m) k.registration;
    date = tells_more _ dates (dated es es' (order_of office e) m) k.date;
    active = tells_more _ activates (activated es es' (order_of office e) m) k.active;
    holds = holds_more;
    fresh = fresh_more;
  }

kept_none : (office : Text) → Kept office [] []
kept_none office = record {
  apart = λ i j d lt h. absurd (omega arith);
  registration = λ c x q. absurd (none_some x q);
  date = λ c x q. absurd (none_some x q);
  active = λ c x q. absurd (none_some x q);
  holds = λ i c r q. absurd (none_some r q);
  fresh = λ i j c c' d d' r r' lt p. absurd (none_some _ p);
}

kept : {s₀ : State} {h : History} {s : State} → s₀.entries ≡ [] → Reached s₀ h s → Kept s.office h s.entries
kept {s₀} e opened = subst (Kept s₀.office []) (sym e) (kept_none s₀.office)
kept e (submits {h} {s} r line before v n after s' a) =
    let k = kept e r in
    let m = outcome_done s.entries s'.entries k.apart s.office s.room line (length before) v (outcome_in s line before) refl a.verdict a.entries in
    subst (λ (o : Text). Kept o (submitted line before v n after ∷ h) s'.entries) (sym a.office)
    (kept_more s.office (submitted line before v n after) h s.entries s'.entries k m.1 m.0)
kept e (looks {h} {s} r text before v after a) =
    let k = kept e r in
    kept_more s.office (looked_up text before v after) h s.entries s.entries k (λ c. refl) k.apart

-- ---- the law
-- creations that clash are one
once : {office : Text} {h : History} {es : List Entry} → Kept office h es → (i j : ℕ) (c c' d d' : Text) (r r' : RegistrationTexts)
    → CreatedAt office h i d c r → CreatedAt office h j d' c' r' → Clash c r c' r' → i ≡ j
once k i j c c' d d' r r' p q z =
    ⊎_elim (λ e. e)
    (⊎_elim (λ lt. absurd (k.fresh i j c c' d d' r r' lt p q z))
    (λ lt. absurd (k.fresh j i c' c d' d r' r lt q p (⊎_elim (λ e. inl (sym e)) (λ e. inr (sym e)) z))))
    (cases_order i j)

held_shown : (s : State) (c : Text) {y : Entry} → read_code_for s.office c ≡ Ok c → find c s.entries ≡ Some y → looked_in s c ≡ Ok y
held_shown s c g f = rw (g, f)

-- a refused look-up leaves the caller's record
refused_left : (r : Result Entry Refusal) (before : Entry) → is_refused_as_code (verdict_of r) ≡ true → shown_in r before ≡ before
refused_left (Ok e) before u = absurd (both_ways false refl u)
refused_left (Err f) before u = refl

-- a look-up of an issued code shows its record
shown : {s : State} {h : History} → Kept s.office h s.entries → (c : Text) → Issued s.office h c → Shows h s c
shown {s} k c i =
    let y = saying_some holder_of (find c s.entries) _ (k.holds i.position c i.registration (creation_registers i.created)) in
    record {
      entry = y.0;
      shows = held_shown s c (issued_coded i) y.1;
      is = record {
        code = (find_some c s.entries y.0 y.1).1;
        registration = k.registration c _ (ap (saying _) y.1);
        date = k.date c _ (ap (saying _) y.1);
        active = k.active c _ (ap (saying _) y.1);
      };
    }

-- ---- the look-ups that were made
abbrev LookedAt : State → Event → Type 0
LookedAt s (submitted line before v n after) = Unit {0}
LookedAt s (looked_up text before v after) = Looked s text before v after

-- the state of the moment of a look-up
record Moment (s₀ : State) (office : Text) (h : History) (t : Text) (before : Entry) (v : Verdict) (after : Entry) : Type 0 where
  state : State
  reached : Reached s₀ h state
  same : state.office ≡ office
  looked : Looked state t before v after

moment : {s₀ : State} {h : History} {s : State} → Reached s₀ h s → (i : ℕ) (t : Text) (before : Entry) (v : Verdict) (after : Entry)
    → event_at h i ≡ Some (looked_up t before v after) → Moment s₀ s.office (earlier_than i h) t before v after
moment opened i t before v after q = absurd (none_some _ q)
moment (submits r line b w n a s' x) zero t before v after q = let z : ◌≡◌ {A = ℕ} 0 1 = cc in absurd (omega arith)
moment (submits r line b w n a s' x) (suc i) t before v after q =
    let m = moment r i t before v after q in
    record { state = m.state; reached = m.reached; same = m.same ∙ sym x.office; looked = m.looked }
moment (looks {h} {s} r text b w a x) zero t before v after q = record { state = s; reached = r; same = refl; looked = subst (LookedAt s) (some_inj _ _ q) x }
moment (looks r text b w a x) (suc i) t before v after q = moment r i t before v after q

was_looked_up : {s₀ : State} {office : Text} {h : History} {t : Text} {before : Entry} {v : Verdict} {after : Entry}
    → s₀.entries ≡ [] → Moment s₀ office h t before v after → WasLookedUp office h t before v after
was_looked_up {s₀} {office} {h} {t} {before} {v} {after} e m =
    let s = m.state in
    let l = m.looked in
    subst (λ (o : Text). WasLookedUp o h t before v after) m.same
    (record {
      issued = λ i.
          let y = shown {s = s} (kept e m.reached) t i in
          (l.verdict ∙ ap verdict_of y.shows, subst (RecordOf s.office h t) (sym (l.shown ∙ ap (λ r. shown_in r before) y.shows)) y.is);
      misread = λ c i x.
          let u = (misread_unread s c t (issued_coded i) x).refused in
          (ap is_refused_as_code l.verdict ∙ u, l.shown ∙ refused_left (looked_in s t) before u);
    })

pub lasting : {s₀ : State} {h : History} {s : State} → s₀.entries ≡ [] → Reached s₀ h s → Lasting h s
lasting {s₀} {h} {s} none reached =
    let k = kept none reached in
    record {
      created_once = λ i j c d d' r r' p q. once k i j c c d d' r r' p q (inl refl);
      one_holder = λ c o f o' f' m n.
          let p = k.holds m.position c m.registration m.granted in
          let q = k.holds n.position c n.registration n.granted in
          let same : holder m.registration ≡ holder n.registration = some_inj _ _ (sym p ∙ q) in
          let object = ap (λ (p : Text × Text). p.0) same in
          let function = ap (λ (p : Text × Text). p.1) same in
          (cc, cc);
      one_code = λ o f c c' m n.
          let same : holder m.registration ≡ holder n.registration = cc in
          let e = once k m.position n.position c c' m.date n.date m.registration n.registration m.created n.created (inr same) in
          cc;
      misread = λ c t i m. misread_unread s c t (issued_coded i) m;
      lasts = λ c i. shown k c i;
      looks = λ i t before v after q. was_looked_up none (moment reached i t before v after q);
    }

-- a call carries every history on, and the law with it
pub line_carries : (s : State) (line before : Text) (v : Verdict) (n : ℕ) (after : Text) (s' : State) → Answered s line before v n after s'
    → Carries s (submitted line before v n after) s'
line_carries s line before v n after s' a s₀ h r = let q = submits r line before v n after s' a in (q, λ none. lasting none q)

pub look_carries : (s : State) (t : Text) (before : Entry) (v : Verdict) (after : Entry) → Looked s t before v after → Carries s (looked_up t before v after) s
look_carries s t before v after l s₀ h r = let q = looks r t before v after l in (q, λ none. lasting none q)
