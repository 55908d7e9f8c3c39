-- What reading the next line does, where the bytes of the input are known.
use Rattle.std.specs.Prelude.{◌≡◌, ℕ, ◌+◌, ◌^◌, ◌<◌, ◌≤◌, Bool, cond, List, [], ◌∷◌, ◌++◌, length, Some, Option}
use Rattle.rulebook.specs.Texts.{Text}
use Rattle.rulebook.specs.Lines.{lines_of}

-- The line is the first of the lines of what is unread and the input, and what is then unread and the input have the others; or there is none.
abbrev pub Reads : ℕ → Text → Option Text → Bool → Text → Text → Option Text → Type 0
Reads n unread input some line left rest =
    (xs : Text) → input ≡ Some xs → length unread + length xs < 2 ^ 63 →
    (ys : Text) × (rest ≡ Some ys) × (lines_of n (unread ++ xs) ≡ cond some (line ∷ lines_of n (left ++ ys)) []) × (length left + length ys ≤ length unread + length xs)

-- these are the lines of what is unread and the input
abbrev pub AreLines : ℕ → Text → Option Text → List Text → Type 0
AreLines n unread input lines = (xs : Text) → input ≡ Some xs → length unread + length xs < 2 ^ 63 → lines ≡ lines_of n (unread ++ xs)
