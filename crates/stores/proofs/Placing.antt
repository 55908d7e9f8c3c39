-- What an order's place for a code says of the rows, and what a write there comes to. Assumes nothing.
use Rattle.std.proofs.Common.{◌≡◌, ℕ, zero, suc, ◌+◌, ◌-◌, ◌<◌, ◌≤◌, Bool, true, false, cond, List, [], ◌∷◌, length, get_or, take, set, is_some, Some, Ok, Err, Result, sym, refl, ap, ◌∙◌, subst, arith}
use Rattle.std.specs.List.{insert}
use Rattle.std.specs.List.Sorted.{IsPermutation}
use Rattle.std.proofs.lemmas.List.Sorted.{IsPermutation-insert}
use Rattle.std.proofs.lemmas.List.{length-map, get_or-map}
use Rattle.std.proofs.lemmas.Bool.{lt-ltb, le-ltb}
use Rattle.rulebook.specs.Texts.{Text}
use Rattle.rulebook.specs.Records.{Entry}
use Rattle.rulebook.specs.Entries.{find, is_held, replacing, Apart}
use Rattle.rulebook.specs.Stores.{limit, is_accepted, Writes}
use Rattle.rulebook.proofs.Entries.{same_from, unlike_from}
use Rattle.std.specs.Str.{bytes_eq}
use Rattle.records.specs.Views.{entry_of, entries_of}
use Rattle.records.specs.declared.Record.{Record}
use Rattle.stores.specs.Moves.{renewed, opened}
use Rattle.stores.specs.Orders.{Stands, Lacks, Locates, IsOrder}
use Rattle.stores.specs.Rows.{held_in, room_in, Puts}
use Rattle.stores.proofs.Keeping.{by_held, by_free, by_full}
use Rattle.stores.proofs.Moving.{length_renewed, length_opened, renewed_shuffled, front_renewed, front_opened}
use Rattle.stores.proofs.Reading.{length_held}

-- ---- the record that stands at a code's place
rest_apart : (x : Entry) (es : List Entry) → Apart (x ∷ es) → Apart es
rest_apart x es a i j d lt h = a (suc i) (suc j) d (omega arith) (omega arith)

other_first : (c : Text) (x : Entry) (es : List Entry) (p : ℕ) → Apart (x ∷ es) → Stands c (x ∷ es) (suc p) → bytes_eq x.code c ≡ false
other_first c x es p a s = unlike_from x.code c (λ q. a 0 (suc p) x (omega arith) s.inside (q ∙ sym (s.code x)))

stands_in_rest : (c : Text) (x : Entry) (es : List Entry) (p : ℕ) → Stands c (x ∷ es) (suc p) → Stands c es p
stands_in_rest c x es p s = let i = s.inside in record { inside = omega arith; code = λ d. s.code d }

pub found : (c : Text) (es : List Entry) (p : ℕ) (d : Entry) → Apart es → Stands c es p → find c es ≡ Some (get_or es p d)
found c [] p d a s = let i = s.inside in absurd (omega arith)
found c (x ∷ es) zero d a s = let q = same_from x.code c (s.code x) in rw q refl
found c (x ∷ es) (suc p) d a s = let ne = other_first c x es p a s in rw ne (found c es p d (rest_apart x es a) (stands_in_rest c x es p s))

pub replacing_is : (e : Entry) (es : List Entry) (p : ℕ) → Apart es → Stands e.code es p → replacing e es ≡ set es p e
replacing_is e [] p a s = let i = s.inside in absurd (omega arith)
replacing_is e (x ∷ es) zero a s = let q = same_from x.code e.code (s.code x) in rw q refl
replacing_is e (x ∷ es) (suc p) a s =
    let ne = other_first e.code x es p a s in
    rw ne (ap (λ (ys : List Entry). x ∷ ys) (replacing_is e es p (rest_apart x es a) (stands_in_rest e.code x es p s)))

module _ (stands : List Entry → Bool) (located : Text → List Entry → Result ℕ ℕ) (rests : ℕ → ℕ → ℕ) (after : Record → ℕ → List Record → List Record) (o : IsOrder stands located rests after) where
  -- ---- what a place says
  pub there : (c : Text) (es : List Entry) (p : ℕ) → stands es ≡ true → Ok p ≡ located c es → Stands c es p
  there c es p u is = subst (Locates c es) (sym is) (o.locates c es u)

  pub lacking : (c : Text) (es : List Entry) (p : ℕ) → stands es ≡ true → Err p ≡ located c es → Lacks c es p
  lacking c es p u is = subst (Locates c es) (sym is) (o.locates c es u)

  -- the row of a code that stands in the rows xs
  pub row_found : (c : Text) (xs : List Record) (p : ℕ) (d : Record) → stands (entries_of xs) ≡ true → Ok p ≡ located c (entries_of xs)
      → (p < length xs) × (find c (entries_of xs) ≡ Some (entry_of (get_or xs p d)))
  row_found c xs p d u is =
      let s = there c (entries_of xs) p u is in
      let i = s.inside in
      let l = length-map xs entry_of in
      let lt : p < length xs = omega arith in
      (lt, found c (entries_of xs) p (entry_of d) (o.apart (entries_of xs) u) s ∙ ap Some (get_or-map entry_of xs p d (entry_of d) lt))

  module _ (r : Record) (n : ℕ) (xs : List Record) (h : n ≤ limit (length xs)) (u : stands (held_in n xs) ≡ true) where
    abbrev e : Entry
    e = entry_of r

    abbrev es : List Entry
    es = held_in n xs

    long : length es ≡ n
    long = length_held n xs (omega arith)

    told_held : is_held e.code es ≡ true → true ≡ is_accepted e es (room_in n xs)
    told_held t = rw t refl

    -- ---- a change
    module _ (p : ℕ) (is : Ok p ≡ located e.code es) where
      pub inside : p < n
      inside = let s = (there e.code es p u is).inside in let l = long in omega arith

      upward : (p ≤ rests p (n - 1)) × (rests p (n - 1) ≤ n - 1)
      upward = let i = inside in o.upward p (n - 1) (omega arith)

      pub change_fits : (p ≤ rests p (n - 1)) × (rests p (n - 1) < n)
      change_fits = let w = upward in let i = inside in (w.0, let z = w.1 in omega arith)

      held : is_held e.code es ≡ true
      held = ap is_some (found e.code es p e (o.apart es u) (there e.code es p u is))

      abbrev changed : List Record
      changed = renewed xs p (rests p (n - 1) + 1) r

      length_changed : length changed ≡ length xs
      length_changed = let w = change_fits in let a = w.0 in let b = w.1 in length_renewed xs p (rests p (n - 1) + 1) r (omega arith) (omega arith)

      held_changed : held_in n changed ≡ renewed es p (rests p (n - 1) + 1) e
      held_changed = let w = change_fits in let a = w.0 in let b = w.1 in front_renewed entry_of xs p (rests p (n - 1) + 1) n r (omega arith) (omega arith) (omega arith)

      pub puts_changed : Puts (after r n xs) r n xs true n changed
      puts_changed = record { told = told_held held; used = by_held r n xs n (n + 1) n held; rows = o.rows_changed r n xs p (omega arith) inside (sym is) }

      pub stands_changed : stands (held_in n changed) ≡ true
      stands_changed = ap stands (held_changed ∙ ap (λ (k : ℕ). renewed es p (rests p (k - 1) + 1) e) (sym long)) ∙ o.changed e es p u (there e.code es p u is)

      pub writes_changed : Writes e es (room_in n xs) true (held_in n changed) (room_in n changed)
      writes_changed =
          let w = change_fits in
          let a = w.0 in
          let b = w.1 in
          let l = long in
          let len = length_changed in
          let same = replacing_is e es p (o.apart es u) (there e.code es p u is) in
          let s = renewed_shuffled es p (rests p (n - 1) + 1) e (omega arith) (omega arith) in
          let list : IsPermutation (replacing e es) (held_in n changed) = subst (λ (l : List Entry). IsPermutation (replacing e es) l) (sym held_changed) (subst (λ (l : List Entry). IsPermutation l (renewed es p (rests p (n - 1) + 1) e)) (sym same) s) in
          record {
            told = told_held held;
            list = λ _. subst (λ (b : Bool). IsPermutation (cond b (replacing e es) (e ∷ es)) (held_in n changed)) (sym held) list;
            left = λ _. rw held (omega arith);
          }

    -- ---- a new record
    module _ (p : ℕ) (is : Err p ≡ located e.code es) where
      pub outside : p ≤ n
      outside = let s = (lacking e.code es p u is).within in let l = long in omega arith

      pub unheld : is_held e.code es ≡ false
      unheld = (lacking e.code es p u is).unheld

      pub puts_refused : limit (length xs) ≤ n → Puts (after r n xs) r n xs false n xs
      puts_refused le =
          let t = unheld in
          record { told = rw (t, le-ltb 0 (room_in n xs) (omega arith)) refl; used = by_full r n xs n (n + 1) n t le; rows = o.rows_refused r n xs le t }

      module _ (lt : n < limit (length xs)) where
        abbrev added : List Record
        added = opened xs p n r

        held_added : held_in (n + 1) added ≡ insert es p e
        held_added = front_opened entry_of xs p n r outside (omega arith)

        told_added : true ≡ is_accepted e es (room_in n xs)
        told_added = let t = unheld in rw (t, lt-ltb 0 (room_in n xs) (omega arith)) refl

        pub puts_added : Puts (after r n xs) r n xs true (n + 1) added
        puts_added = record { told = told_added; used = by_free r n xs n (n + 1) n unheld lt; rows = o.rows_added r n xs p lt (sym is) }

        pub stands_added : stands (held_in (n + 1) added) ≡ true
        stands_added = ap stands held_added ∙ o.added e es p u (sym is)

        pub writes_added : Writes e es (room_in n xs) true (held_in (n + 1) added) (room_in (n + 1) added)
        writes_added =
            let t = unheld in
            let len = length_opened xs p n r outside (omega arith) in
            let list : IsPermutation (e ∷ es) (held_in (n + 1) added) = subst (λ (l : List Entry). IsPermutation (e ∷ es) l) (sym held_added) (IsPermutation-insert es p e) in
            record {
              told = told_added;
              list = λ _. subst (λ (b : Bool). IsPermutation (cond b (replacing e es) (e ∷ es)) (held_in (n + 1) added)) (sym t) list;
              left = λ _. rw t (omega arith);
            }

-- a search of the first n rows, for what they hold
pub searched : (stands : List Entry → Bool) (located : Text → List Entry → Result ℕ ℕ) (c : Text) (n : ℕ) (xs ys : List Record) (answer : Result ℕ ℕ) → ys ≡ take n xs
    → (stands (entries_of ys) ≡ true → answer ≡ located c (entries_of ys)) → stands (held_in n xs) ≡ true → answer ≡ located c (held_in n xs)
searched stands located c n xs ys answer e f u =
    subst (λ (zs : List Record). stands (entries_of zs) ≡ true → answer ≡ located c (entries_of zs)) e f u
