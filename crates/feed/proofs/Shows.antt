-- The lines of an input, as they are shown and answered. Assumes nothing.
use Rattle.std.proofs.Common.{◌≡◌, ℕ, suc, ◌+◌, ◌<◌, ◌≤◌, ◌^◌, Bool, true, false, cond, is_some, List, [], ◌∷◌, ◌++◌, length, length-append, append_assoc, Some, Option, sym, ap, ◌∙◌, subst, arith}
use Rattle.std.specs.Prelude.{Result, Ok, Err, IfOk, OnOk, ◌==◌}
use Rattle.std.specs.Borrow.{Bor}
use Rattle.std.proofs.lemmas.Result.{IfOk-at_ok}
use Rattle.rulebook.specs.Texts.{Text, is_blank}
use Rattle.rulebook.specs.Lines.{lines_after, lines_of}
use Rattle.feed.specs.Known.{Reads, AreLines}
use Rattle.feed.specs.Readers.{Next}
use Rattle.feed.specs.Shown.{shown}

-- what is known of a line that was read, by what is shown of it
abbrev ShownAs : ℕ → Text → Option Text → Text → Option Text → Text → Option (Bor Text) → Type 0
ShownAs n unread input left rest kept line = Next n unread (is_some line) (shown line) left × Reads n unread input (is_some line) (shown line) left rest × (kept ≡ shown line)

pub shown_by : {E : Type 0} (n : ℕ) (unread : Text) (input : Option Text) (left : Text) (rest : Option Text) (kept : Text) {r : Result (Option (Bor Text)) E} {o p : Option (Bor Text)} →
    r ≡ Ok o → IfOk r (ShownAs n unread input left rest kept) → o ≡ p → ShownAs n unread input left rest kept p
shown_by n unread input left rest kept is h e = subst (ShownAs n unread input left rest kept) e (IfOk-at_ok (ShownAs n unread input left rest kept) is h)

pub on_ok : {X E : Type 0} (r : Result X E) (P : Type 0) → P → OnOk r P
on_ok (Ok x) P p = p
on_ok (Err e) P p = tt

-- a text has at most one line more than bytes
last_length : (line : Text) (c : Bool) → length (cond c [] (line ∷ [])) ≤ 1
last_length line true = omega arith
last_length line false = omega arith

one_length : (line : Text) (c : Bool) (m : ℕ) (rest on : List Text) → length rest ≤ m + 1 → length on ≤ m + 1 → length (cond c (line ∷ rest) on) ≤ suc m + 1
one_length line true m rest on r o = omega (arith, r)
one_length line false m rest on r o = omega (arith, o)

lines_length : (n : ℕ) (line t : Text) → length (lines_after n line t) ≤ length t + 1
lines_length n line [] = last_length line (is_blank line)
lines_length n line (b ∷ bs) = one_length line (b == 10) (length bs) _ _ (lines_length n [] bs) (lines_length n _ bs)

-- these are the first lines, and what is unread and the input have the others
abbrev pub SoFar : ℕ → Text → Option Text → List Text → Text → Option Text → Type 0
SoFar n unread input front left rest =
    (xs : Text) → input ≡ Some xs → length unread + length xs < 2 ^ 63 →
    (ys : Text) × (rest ≡ Some ys) × (lines_of n (unread ++ xs) ≡ front ++ lines_of n (left ++ ys)) × (length left + length ys ≤ length unread + length xs)

module _ (n : ℕ) (unread : Text) (input : Option Text) (front : List Text) (left : Text) (rest : Option Text) (f : SoFar n unread input front left rest) where
  pub so_far_more : (line left' : Text) (rest' : Option Text) → Reads n left rest true line left' rest' → SoFar n unread input (front ++ (line ∷ [])) left' rest'
  so_far_more line left' rest' r = λ xs is small.
      let k = f xs is small in
      let s = r k.0 k.1 (omega (arith, k.3)) in
      (s.0, s.1, k.2 ∙ ap (λ (l : List Text). front ++ l) s.2 ∙ sym (append_assoc front (line ∷ []) (lines_of n (left' ++ s.0))), omega (arith, k.3, s.3))

  pub so_far_all : (line left' : Text) (rest' : Option Text) → Reads n left rest false line left' rest' → AreLines n unread input (front ++ [])
  so_far_all line left' rest' r = λ xs is small.
      let k = f xs is small in
      let s = r k.0 k.1 (omega (arith, k.3)) in
      sym (k.2 ∙ ap (λ (l : List Text). front ++ l) s.2)

  pub so_far_full : 2 ^ 63 < length front → AreLines n unread input front
  so_far_full many = λ xs is small.
      let k = f xs is small in
      absurd (omega (arith, lines_length n [] (unread ++ xs), ap length k.2, length-append unread xs, length-append front (lines_of n (left ++ k.0))))
