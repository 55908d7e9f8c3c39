-- What answering the lines of an input, one after another, comes to.
use Rattle.std.specs.Prelude.{◌≡◌, ℕ, ◌+◌, ◌^◌, ◌⊎◌, true, false, List, [], ◌∷◌}
use Rattle.rulebook.specs.Texts.{Text}
use Rattle.feed.specs.Readers.{Next}

-- From what is unread, and the number of the next line, these lines are read and answered, and this is then unread.
-- There is no further line, or no further number.
abbrev pub Answered : {A : Type 0} → (A → ℕ → Text → A → Type 0) → ℕ → ℕ → List Text → Text → A → Text → A → Type 0
Answered answers n number [] unread a left b = (a ≡ b) × (Next n unread false [] left ⊎ ((number ≡ 2 ^ 64) × (unread ≡ left)))
Answered {A} answers n number (line ∷ lines) unread a left b =
    (rest : Text) × (next : A) × Next n unread true line rest × answers a number line next × Answered answers n (number + 1) lines rest next left b
