-- The first records of a store, and one more, joined to those of another. Assumes nothing.
use Rattle.std.proofs.Common.{◌≡◌, ℕ, ◌+◌, ◌-◌, ◌<◌, ◌≤◌, Bool, true, false, cond, ◌||◌, ltb, List, [], ◌∷◌, ◌++◌, length, get_or, take, is_some, Some, None, Option, Ok, Err, Result, unwrap_or, sym, refl, ap, ◌∙◌, subst, arith}
use Rattle.std.specs.List.Sorted.{IsPermutation}
use Rattle.std.proofs.lemmas.List.{get_or-take, length-take-le, take_more, nil_from_length}
use Rattle.std.proofs.lemmas.List.Sorted.{IsPermutation-cons, IsPermutation-to_front, IsPermutation-trans}
use Rattle.std.proofs.lemmas.Bool.{lt-ltb, ltb-false}
use Rattle.rulebook.specs.Records.{Entry}
use Rattle.rulebook.specs.Entries.{find, is_held, nth, Apart, replacing}
use Rattle.rulebook.specs.Stores.{Writes}
use Rattle.rulebook.proofs.Entries.{find_some, find_shuffled, nth_some}
use Rattle.records.specs.Views.{entry_of}
use Rattle.records.specs.declared.Record.{Record}
use Rattle.stores.specs.Copies.{unfit_for}
use Rattle.stores.specs.Reads.{Reads}
use Rattle.stores.specs.declared.copying.Unfit.{Unfit}
use Rattle.stores.specs.declared.copying.Unfit.TheVariants.{HoldsRecords, LacksRoom}

-- a store that takes the records es is empty and has room for them
fit_by : (es ts : List Entry) (room : ℕ) (b f : Bool) → ltb 0 (length ts) ≡ b → ltb room (length es) ≡ f
    → ◌≡◌ {A = Result (Unit {0}) Unfit} (Ok tt) (cond b (Err HoldsRecords) (cond f (Err LacksRoom) (Ok tt))) → (ts ≡ []) × (length es ≤ room)
fit_by es ts room true f t u e = absurd (let z : ◌≡◌ {A = ℕ} 0 1 = cc in omega arith)
fit_by es ts room false true t u e = absurd (let z : ◌≡◌ {A = ℕ} 0 1 = cc in omega arith)
fit_by es ts room false false t u e = let z = ltb-false 0 (length ts) t in (nil_from_length ts (omega arith), ltb-false room (length es) u)

pub fit : (es ts : List Entry) (room : ℕ) → ◌≡◌ {A = Result (Unit {0}) Unfit} (Ok tt) (unfit_for es ts room) → (ts ≡ []) × (length es ≤ room)
fit es ts room e = fit_by es ts room (ltb 0 (length ts)) (ltb room (length es)) refl refl e

-- the k-th code is not among the first k
module _ (es : List Entry) (k : ℕ) (d : Entry) (a : Apart es) (h : k < length es) where
  new_by : (o : Option Entry) → find (get_or es k d).code (take k es) ≡ o → o ≡ None
  new_by None e = refl
  new_by (Some x) e =
      let f = find_some (get_or es k d).code (take k es) x e in
      let i = f.0.0 in
      let l = length-take-le k es (omega arith) in
      let lt : i < k = omega (arith, f.0.1) in
      let same : get_or es i d ≡ x = sym (get_or-take k es i d lt) ∙ f.0.2 d in
      absurd (a i k d lt h (ap (λ (y : Entry). y.code) same ∙ f.1))

  pub new_code : find (get_or es k d).code (take k es) ≡ None
  new_code = new_by (find (get_or es k d).code (take k es)) refl

-- one record more
module _ (es ts ts' : List Entry) (k room room' : ℕ) (before r : Record) (there accepted : Bool) (a : Apart es) (b : Apart ts) (h : k < length es)
    (reads : Reads (nth k es) before there r) (s : IsPermutation (take k es) ts) (enough : 0 < room) (w : Writes (entry_of r) ts room accepted ts' room') where
  read_is : entry_of r ≡ get_or es k (entry_of before)
  read_is = reads.shown ∙ ap (λ (o : Option Entry). unwrap_or o (entry_of before)) (nth_some es k (entry_of before) h)

  unheld : is_held (entry_of r).code ts ≡ false
  unheld =
      ap (λ (e : Entry). is_held e.code ts) read_is
      ∙ ap is_some (find_shuffled (take k es) ts (get_or es k (entry_of before)).code b s ∙ new_code es k (entry_of before) a h)

  taken : accepted ≡ true
  taken = w.told ∙ ap (λ (z : Bool). z || ltb 0 room) unheld ∙ lt-ltb 0 room enough

  together : IsPermutation (take (k + 1) es) ts'
  together =
      let e = get_or es k (entry_of before) in
      let list : IsPermutation (e ∷ ts) ts' = subst (λ (x : Entry). IsPermutation (x ∷ ts) ts') read_is (subst (λ (z : Bool). IsPermutation (cond z (replacing (entry_of r) ts) (entry_of r ∷ ts)) ts') unheld (w.list taken)) in
      let front : IsPermutation (take k es ++ (e ∷ [])) (e ∷ ts) = IsPermutation-trans (take k es ++ (e ∷ [])) (e ∷ take k es) (e ∷ ts) (IsPermutation-to_front (take k es) e) (IsPermutation-cons e (take k es) ts s) in
      subst (λ (l : List Entry). IsPermutation l ts') (sym (take_more es k (entry_of before) h)) (IsPermutation-trans (take k es ++ (e ∷ [])) (e ∷ ts) ts' front list)

  pub joined : IsPermutation (take (k + 1) es) ts' × (room' ≡ room - 1)
  joined = (together, w.left taken ∙ ap (λ (z : Bool). cond z room (room - 1)) unheld)
