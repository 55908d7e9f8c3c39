-- What a grant, a line and its answer come to in a state. Assumes nothing.
use Rattle.std.proofs.Common.{◌≡◌, ℕ, ◌≤◌, Bool, true, false, ◌||◌, ltb, List, length, ◌⊎◌, ⊎_elim, IfOk, Ok, Err, Result, sym, refl, ap, ◌∙◌, subst, arith}
use Rattle.grounds.specs.Grounds.{in_field}
use Rattle.grounds.specs.declared.Ground.TheVariants.{Buffer, NoRoom}
use Rattle.grounds.specs.declared.Refusal.{Refusal}
use Rattle.std.specs.List.Sorted.{IsPermutation}
use Rattle.std.proofs.lemmas.List.Sorted.{IsPermutation-refl}
use Rattle.std.proofs.lemmas.Bool.{ltb-true, ltb-false, le-ltb, eq-eqb, ne_eqb, both_ways}
use Rattle.rulebook.specs.Texts.{Text, viewed, onward}
use Rattle.rulebook.specs.Records.{Entry}
use Rattle.rulebook.specs.Entries.{is_held}
use Rattle.rulebook.specs.Stores.{Writes}
use Rattle.rulebook.specs.Answers.{filled, told_length}
use Rattle.rulebook.specs.Outcomes as rules
use Rattle.rulebook.specs.Outcomes.{ground_if, refusing, Fitting, judged, roomed, entry_in}
use Rattle.rulebook.specs.Histories.{State, verdict_of, answer_of, outcome_in, Answered}
use Rattle.rulebook.proofs.Grants.{judged_fits}
use Rattle.decisions.specs.Views.{grant_of}
use Rattle.decisions.specs.declared.Grant.{Grant}
use Rattle.decisions.specs.declared.Grant.TheVariants.{Created, Revised}
use Rattle.eic.specs.Views.{code_text}
use Rattle.records.specs.Views.{entry_of}
use Rattle.records.specs.declared.Record.{Record}
use Rattle.register.specs.Performing.{Comes, outcome_of}

-- ---- a grant that is written
module _ (s s' : State) (x : Record) (g : Grant) (is : (g ≡ Created x) ⊎ (g ≡ Revised x)) (fits : Fitting s.entries (grant_of g)) (accepted : Bool)
    (w : Writes (entry_of x) s.entries s.room accepted s'.entries s'.room) where
  abbrev Held : Bool → Type 0
  Held b = is_held (code_text x.code) s.entries ≡ b

  abbrev Done : Grant → Result Entry Refusal → Type 0
  Done k a = Comes (roomed s.room (grant_of k)) s a s'

  -- what holds of a new record and of one that is held
  by_grant : (a : Result Entry Refusal) → (Held false → Done (Created x) a) → (Held true → Done (Revised x) a) → Done g a
  by_grant a new held =
      ⊎_elim (λ (e : g ≡ Created x). subst (λ (k : Grant). Done k a) (sym e) (new (subst (λ (k : Grant). Fitting s.entries (grant_of k)) e fits)))
      (λ (e : g ≡ Revised x). subst (λ (k : Grant). Done k a) (sym e) (held (subst (λ (k : Grant). Fitting s.entries (grant_of k)) e fits))) is

  -- it is accepted
  pub written_comes : true ≡ accepted → s'.office ≡ s.office → Done g (Ok (entry_of x))
  written_comes took office =
      let told = took ∙ w.told in
      let list = w.list (sym took) in
      let left = w.left (sym took) in
      by_grant (Ok (entry_of x))
      (λ h.
      let some = ltb-true 0 s.room (sym (told ∙ ap (λ (b : Bool). b || ltb 0 s.room) h)) in
      rw (ne_eqb s.room 0 (λ z. omega arith)) (record { told = refl; office = office; entries = rw h at list; room = rw h at left }))
      (λ h. record { told = refl; office = office; entries = rw h at list; room = rw h at left })

  -- there is no room for it
  pub unwritten_comes : false ≡ accepted → s' ≡ s → (a : Result Entry Refusal) → a ≡ Err (in_field 0 NoRoom 0) → Done g a
  unwritten_comes full same a is_refusal =
      let told = full ∙ w.told in
      by_grant a
      (λ h.
      let none = ltb-false 0 s.room (sym (told ∙ ap (λ (b : Bool). b || ltb 0 s.room) h)) in
      rw (eq-eqb s.room 0 (omega arith)) (record { told = is_refusal; office = ap (λ (z : State). z.office) same; entries = subst (λ (z : State). IsPermutation s.entries z.entries) (sym same) (IsPermutation-refl s.entries); room = ap (λ (z : State). z.room) same }))
      (λ h. absurd (both_ways false refl (told ∙ ap (λ (b : Bool). b || ltb 0 s.room) h)))

-- ---- a line
pub judged_made : (office : Text) (es : List Entry) (line : Text) (r : Result Grant Refusal) → viewed grant_of r ≡ judged office es line → IfOk r (λ g. Fitting es (grant_of g))
judged_made office es line (Ok g) e = judged_fits office es line (grant_of g) (sym e)
judged_made office es line (Err f) e = tt

-- with a buffer that is large enough, it comes to what its grant comes to
pub outcome_is : (s : State) (line : Text) (size : ℕ) (g : rules.Grant) → 200 ≤ size → Ok g ≡ judged s.office s.entries line → roomed s.room g ≡ outcome_of s line size
outcome_is s line size g h e =
    ap (λ (r : Result rules.Grant Refusal). onward r (roomed s.room)) e
    ∙ ap (λ (b : Bool). refusing (ground_if b Buffer 0) (onward (judged s.office s.entries line) (roomed s.room))) (sym (le-ltb size 200 h))

-- ---- the answer
same_verdict : {X Y : Type 0} (f : X → Y) (r : Result X Refusal) → verdict_of (viewed f r) ≡ verdict_of r
same_verdict f (Ok x) = refl
same_verdict f (Err e) = refl

pub answered : (s s' : State) (line before : Text) (a : Result Entry Refusal) (n : ℕ) (after : Text) → Comes (outcome_of s line (length before)) s a s'
    → n ≡ told_length (answer_of a) before → after ≡ filled (answer_of a) before → Answered s line before (verdict_of a) n after s'
answered s s' line before a n after c en ea =
    record {
      verdict = ap verdict_of c.told ∙ same_verdict entry_in (outcome_in s line before);
      told = en ∙ ap (λ (r : Result Entry Refusal). told_length (answer_of r) before) c.told;
      buffer = ea ∙ ap (λ (r : Result Entry Refusal). filled (answer_of r) before) c.told;
      office = c.office;
      entries = c.entries;
      room = c.room;
    }
