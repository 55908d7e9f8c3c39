-- What a granted line was, and what it did to the records. Assumes nothing.
use Rattle.std.proofs.Common.{◌≡◌, ℕ, Bool, true, false, cond, not, eqb, ltb, List, ◌∷◌, is_some, Some, None, Ok, Err, Option, Result, sym, refl, ap, ◌∙◌, subst}
use Rattle.grounds.specs.declared.Ground.{Ground}
use Rattle.grounds.specs.declared.Ground.TheVariants.{Buffer, EarlierDate, OtherHolder, ObjectHasCode, NoRoom}
use Rattle.grounds.specs.declared.Refusal.{Refusal}
use Rattle.std.specs.List.Sorted.{IsPermutation}
use Rattle.std.specs.Str.{bytes_eq}
use Rattle.rulebook.specs.Texts.{Text, onward}
use Rattle.rulebook.specs.Dates.{is_earlier}
use Rattle.rulebook.specs.Records.{RegistrationTexts, Entry}
use Rattle.rulebook.specs.Requests.{Order, creates, changes, deactivates, reactivates, looks_up, asked}
use Rattle.rulebook.specs.Entries.{find, Apart, replacing, has_holder}
use Rattle.rulebook.specs.Outcomes.{Action, creation, change, deactivation, reactivation, moved, moving, grounded, held, ground_if, first, refusing, other_holder, misfit, entry, Grant, created, revised, shown, Fitting, decided, judged, roomed, outcome, list_by, list_after}
use Rattle.rulebook.specs.Histories.{Verdict, verdict_of, order_in, granted_order}
use Rattle.rulebook.proofs.Reading.{err_ok}
use Rattle.rulebook.proofs.Own.{same_value, onward_ok}
use Rattle.rulebook.proofs.Entries.{same_true, none_some, find_shuffled}
use Rattle.rulebook.proofs.Puts.{apart_shuffled, apart_cons, apart_replacing, find_replacing}

-- an object in a function
abbrev pub holder : RegistrationTexts → Text × Text
holder r = (r.object, r.function)

-- ---- what a granted order did
-- the same is found as before
abbrev pub Same : List Entry → List Entry → Type 0
Same es es' = (c : Text) → find c es' ≡ find c es

-- the record is put under its code, and under all others is found what was
abbrev pub Put : List Entry → List Entry → Entry → Type 0
Put es es' x = (c : Text) → find c es' ≡ cond (bytes_eq x.code c) (Some x) (find c es)

-- a new code for a holder that has none
pub record New (es es' : List Entry) (x : Entry) : Type 0 where
  pub put : Put es es' x
  pub unheld : find x.code es ≡ None
  pub free : has_holder x.registration.object x.registration.function es ≡ false

-- a record in place of one with its code and its holder
pub record Over (es es' : List Entry) (x y : Entry) : Type 0 where
  pub put : Put es es' x
  pub found : find x.code es ≡ Some y
  pub holds : holder x.registration ≡ holder y.registration

abbrev pub Done : List Entry → List Entry → Option Order → Type 0
Done es es' None = Same es es'
Done es es' (Some (creates d c r)) = New es es' (entry c true d r)
Done es es' (Some (changes d c r)) = (y : Entry) × (y.active ≡ true) × Over es es' (entry c true d r) y
Done es es' (Some (deactivates d c)) = (y : Entry) × Over es es' (entry c false d y.registration) y
Done es es' (Some (reactivates d c)) = (y : Entry) × Over es es' (entry c true d y.registration) y
Done es es' (Some (looks_up c)) = Same es es'

-- ---- what was so where it was granted
-- the first ground is not met, and the rest is granted
passed_by : {X : Type 0} (o : Option Refusal) (r : Result X Refusal) (x : X) → refusing o r ≡ Ok x → (o ≡ None) × (r ≡ Ok x)
passed_by None r x e = (refl, e)
passed_by (Some f) r x e = err_ok e

clear : {X : Type 0} (b : Bool) (g : Ground) (k : ℕ) (r : Result X Refusal) (x : X) → refusing (ground_if b g k) r ≡ Ok x → (b ≡ false) × (r ≡ Ok x)
clear true g k r x e = err_ok e
clear false g k r x e = (refl, e)

was_held : {X : Type 0} (k : ℕ) (o : Option Entry) (f : Entry → Result X Refusal) (x : X) → held k o f ≡ Ok x → (y : Entry) × (o ≡ Some y) × (f y ≡ Ok x)
was_held k None f x e = err_ok e
was_held k (Some y) f x e = (y, refl, e)

not_issued : (b s : Bool) → grounded 3 (moved (Some b) creation) ≡ Ok s → ⊥
not_issued true s e = err_ok e
not_issued false s e = err_ok e

was_unheld : (o : Option Entry) (f : Bool → Result Grant Refusal) (g : Grant) → onward (moving creation o) f ≡ Ok g → (o ≡ None) × (f true ≡ Ok g)
was_unheld None f g e = (refl, e)
was_unheld (Some y) f g e = let m = onward_ok (moving creation (Some y)) f g e in absurd (not_issued y.active m.0 m.1)

-- the action wants the status b, and leaves the status s
abbrev Moves : Action → Bool → Bool → Type 0
Moves a b s = (x z : Bool) → grounded 3 (moved (Some x) a) ≡ Ok z → (x ≡ b) × (s ≡ z)

change_moves : Moves change true true
change_moves true z e = (refl, same_value true z e)
change_moves false z e = err_ok e

deactivation_moves : Moves deactivation true false
deactivation_moves true z e = (refl, same_value false z e)
deactivation_moves false z e = err_ok e

reactivation_moves : Moves reactivation false true
reactivation_moves true z e = err_ok e
reactivation_moves false z e = (refl, same_value true z e)

was_moved : (a : Action) (b s : Bool) (o : Option Entry) (f : Bool → Entry → Result Grant Refusal) (g : Grant) → Moves a b s
    → onward (moving a o) (λ z. held 3 o (f z)) ≡ Ok g → (y : Entry) × (o ≡ Some y) × (y.active ≡ b) × (f s y ≡ Ok g)
was_moved a b s None f g w e = err_ok (onward_ok (moving a None) _ g e).2
was_moved a b s (Some y) f g w e =
    let m = onward_ok (moving a (Some y)) _ g e in
    let p = w y.active m.0 m.1 in
    (y, refl, p.0, ap (λ (z : Bool). f z y) p.1 ∙ m.2)

same_by : (a b : Bool) → first (ground_if (not a) OtherHolder 4) (ground_if (not b) OtherHolder 5) ≡ None → (a ≡ true) × (b ≡ true)
same_by true true e = (refl, refl)
same_by true false e = absurd (none_some _ (sym e))
same_by false b e = absurd (none_some _ (sym e))

same_holder : (r s : RegistrationTexts) → other_holder r s ≡ None → holder r ≡ holder s
unfolding other_holder
same_holder r s e =
    let p = same_by (bytes_eq r.object s.object) (bytes_eq r.function s.function) e in
    let object = same_true r.object s.object p.0 in
    let function = same_true r.function s.function p.1 in
    cc

has_room : (room : ℕ) (x g : Grant) → roomed room x ≡ Ok g → x ≡ g
has_room room (created e) g q = same_value _ g (clear (eqb room 0) NoRoom 0 _ g q).1
has_room room (revised e) g q = same_value _ g q
has_room room (shown e) g q = same_value _ g q

-- ---- and what it did
module _ (es es' : List Entry) (a : Apart es) where
  by_new : (x : Entry) (g : Grant) → ◌≡◌ {A = Result Grant Refusal} (Ok (created x)) (Ok g) → find x.code es ≡ None → has_holder x.registration.object x.registration.function es ≡ false
      → IsPermutation (list_by g es) es' → Apart es' × New es es' x
  by_new x g q f h s =
      let t : IsPermutation (x ∷ es) es' = rw (← same_value (created x) g q) at s in
      let a' = apart_shuffled (x ∷ es) es' (apart_cons x es a f) t in
      (a', record { put = λ c. find_shuffled (x ∷ es) es' c a' t; unheld = f; free = h })

  by_over : (x y : Entry) (g : Grant) → ◌≡◌ {A = Result Grant Refusal} (Ok (revised x)) (Ok g) → find x.code es ≡ Some y → holder x.registration ≡ holder y.registration
      → IsPermutation (list_by g es) es' → Apart es' × Over es es' x y
  by_over x y g q f h s =
      let t : IsPermutation (replacing x es) es' = rw (← same_value (revised x) g q) at s in
      let a' = apart_shuffled (replacing x es) es' (apart_replacing x es a) t in
      (a', record { put = λ c. find_shuffled (replacing x es) es' c a' t ∙ find_replacing c x y es f; found = f; holds = h })

  by_same : IsPermutation es es' → Apart es' × Same es es'
  by_same s = let a' = apart_shuffled es es' a s in (a', λ c. find_shuffled es es' c a' s)

  done : (o : Order) (g : Grant) → decided es o ≡ Ok g → IsPermutation (list_by g es) es' → Apart es' × Done es es' (Some o)
  done (creates d c r) g e s =
      let one = was_unheld (find c es) _ g e in
      let two = clear (has_holder r.object r.function es) ObjectHasCode 4 _ g one.1 in
      let three = passed_by (misfit es c r) _ g two.1 in
      by_new (entry c true d r) g three.1 one.0 two.0 s
  done (changes d c r) g e s =
      let one = was_moved change true true (find c es) _ g change_moves e in
      let y = one.0 in
      let two = clear (is_earlier d y.date) EarlierDate 2 _ g one.3 in
      let three = passed_by (other_holder r y.registration) _ g two.1 in
      let four = passed_by (misfit es c r) _ g three.1 in
      let over = by_over (entry c true d r) y g four.1 one.1 (same_holder r y.registration three.0) s in
      (over.0, (y, one.2, over.1))
  done (deactivates d c) g e s =
      let one = was_moved deactivation true false (find c es) _ g deactivation_moves e in
      let y = one.0 in
      let over = by_over (entry c false d y.registration) y g (clear (is_earlier d y.date) EarlierDate 2 _ g one.3).1 one.1 refl s in
      (over.0, (y, over.1))
  done (reactivates d c) g e s =
      let one = was_moved reactivation false true (find c es) _ g reactivation_moves e in
      let y = one.0 in
      let over = by_over (entry c true d y.registration) y g (clear (is_earlier d y.date) EarlierDate 2 _ g one.3).1 one.1 refl s in
      (over.0, (y, over.1))
  done (looks_up c) g e s =
      let one = was_held 2 (find c es) _ g e in
      by_same (rw (← same_value (shown one.0) g one.2) at s)

  -- codes stay apart, and the records are changed as the line asks where it is granted
  pub outcome_done : (office : Text) (room : ℕ) (line : Text) (size : ℕ) (v : Verdict) (out : Result Grant Refusal) → outcome office es room line size ≡ out → v ≡ verdict_of out
      → IsPermutation (list_after out es) es' → Apart es' × Done es es' (granted_order v (asked office line))
  outcome_done office room line size v (Err f) e q s =
      subst (λ (w : Verdict). Apart es' × Done es es' (granted_order w (asked office line))) (sym q) (by_same s)
  outcome_done office room line size v (Ok g) e q s =
      let one = clear (ltb size 200) Buffer 0 _ g e in
      let two = onward_ok (judged office es line) (roomed room) g one.1 in
      let three = onward_ok (asked office line) (decided es) two.0 two.1 in
      let o = three.0 in
      let is : granted_order v (asked office line) ≡ Some o = ap (λ (w : Verdict). granted_order w (asked office line)) q ∙ ap order_in three.1 in
      subst (λ (w : Option Order). Apart es' × Done es es' w) (sym is) (done o g (three.2 ∙ ap Ok (has_room room two.0 g two.2)) s)

-- ---- what is decided fits the records
fitting_by : (es : List Entry) (x g : Grant) → ◌≡◌ {A = Result Grant Refusal} (Ok x) (Ok g) → Fitting es x → Fitting es g
fitting_by es x g q f = subst (Fitting es) (same_value x g q) f

pub decided_fits : (es : List Entry) (o : Order) (g : Grant) → decided es o ≡ Ok g → Fitting es g
decided_fits es (creates d c r) g e =
    let one = was_unheld (find c es) _ g e in
    let two = clear (has_holder r.object r.function es) ObjectHasCode 4 _ g one.1 in
    fitting_by es (created (entry c true d r)) g (passed_by (misfit es c r) _ g two.1).1 (ap is_some one.0)
decided_fits es (changes d c r) g e =
    let one = was_moved change true true (find c es) _ g change_moves e in
    let two = clear (is_earlier d one.0.date) EarlierDate 2 _ g one.3 in
    let three = passed_by (other_holder r one.0.registration) _ g two.1 in
    fitting_by es (revised (entry c true d r)) g (passed_by (misfit es c r) _ g three.1).1 (ap is_some one.1)
decided_fits es (deactivates d c) g e =
    let one = was_moved deactivation true false (find c es) _ g deactivation_moves e in
    fitting_by es (revised (entry c false d one.0.registration)) g (clear (is_earlier d one.0.date) EarlierDate 2 _ g one.3).1 (ap is_some one.1)
decided_fits es (reactivates d c) g e =
    let one = was_moved reactivation false true (find c es) _ g reactivation_moves e in
    fitting_by es (revised (entry c true d one.0.registration)) g (clear (is_earlier d one.0.date) EarlierDate 2 _ g one.3).1 (ap is_some one.1)
decided_fits es (looks_up c) g e =
    let one = was_held 2 (find c es) _ g e in
    fitting_by es (shown one.0) g one.2 tt

pub judged_fits : (office : Text) (es : List Entry) (line : Text) (g : Grant) → judged office es line ≡ Ok g → Fitting es g
judged_fits office es line g e = let one = onward_ok (asked office line) (decided es) g e in decided_fits es one.0 g one.2
