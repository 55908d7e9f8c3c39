-- What a search from the front says of where a code is located. Assumes nothing.
use Rattle.std.proofs.Common.{◌≡◌, ℕ, suc, ◌+◌, ◌<◌, ◌≤◌, Bool, true, false, cond, not, ltb, List, [], ◌∷◌, length, is_some, Some, None, Option, Ok, Err, ok_or, sym, refl, ap, ◌∙◌, ⊎_elim, arith}
use Rattle.std.specs.List.{position_or_len}
use Rattle.std.specs.Str.{bytes_eq}
use Rattle.std.proofs.lemmas.Bool.{lt-ltb, le-ltb, cases_lt}
use Rattle.std.proofs.lemmas.List.{length-map}
use Rattle.rulebook.specs.Texts.{Text}
use Rattle.rulebook.specs.Records.{Entry}
use Rattle.rulebook.specs.Entries.{find, is_held}
use Rattle.eic.specs.Views.{code_text}
use Rattle.records.specs.Views.{entry_of, entries_of}
use Rattle.records.specs.declared.Record.{Record}
use Rattle.bywrite.specs.Places.{place, located}

abbrev pub has_code : Text → Record → Bool
has_code c r = bytes_eq (code_text r.code) c

placed_by : (b : Bool) (m n : ℕ) → m ≡ n → cond (not b) (1 + m) 0 ≡ cond b 0 (suc n)
placed_by true m n e = refl
placed_by false m n e = omega arith

placed : (c : Text) (xs : List Record) → position_or_len (has_code c) xs ≡ place c (entries_of xs)
placed c [] = refl
placed c (x ∷ xs) = placed_by (has_code c x) (position_or_len (has_code c) xs) (place c (entries_of xs)) (placed c xs)

ltb_suc : (m n : ℕ) → ltb (suc m) (suc n) ≡ ltb m n
ltb_suc m n = ⊎_elim (λ (lt : m < n). lt-ltb (suc m) (suc n) (omega arith) ∙ sym (lt-ltb m n lt)) (λ (le : n ≤ m). le-ltb (suc m) (suc n) (omega arith) ∙ sym (le-ltb m n le)) (cases_lt m n)

held_by : (b : Bool) (x : Entry) (o : Option Entry) (m n : ℕ) → ltb m n ≡ is_some o → ltb (cond b 0 (suc m)) (suc n) ≡ is_some (cond b (Some x) o)
held_by true x o m n e = lt-ltb 0 (suc n) (omega arith)
held_by false x o m n e = ltb_suc m n ∙ e

held : (c : Text) (es : List Entry) → ltb (place c es) (length es) ≡ is_held c es
held c [] = refl
held c (x ∷ es) = held_by (bytes_eq x.code c) x (find c es) (place c es) (length es) (held c es)

told : (b : Bool) (k n : ℕ) → ok_or (cond b (Some k) None) n ≡ cond b (Ok k) (Err n)
told true k n = refl
told false k n = refl

pub searched : (c : Text) (xs : List Record) (o : Option ℕ) → o ≡ cond (ltb (position_or_len (has_code c) xs) (length xs)) (Some (position_or_len (has_code c) xs)) None → ok_or o (length xs) ≡ located c (entries_of xs)
searched c xs o e =
    let k = place c (entries_of xs) in
    ap (λ (o : Option ℕ). ok_or o (length xs)) (e ∙ ap (λ (k : ℕ). cond (ltb k (length xs)) (Some k) None) (placed c xs))
    ∙ ap (λ (n : ℕ). ok_or (cond (ltb k n) (Some k) None) n) (sym (length-map xs entry_of))
    ∙ told (ltb k (length (entries_of xs))) k (length (entries_of xs))
    ∙ ap (λ (b : Bool). cond b (Ok k) (Err (length (entries_of xs)))) (held c (entries_of xs))
