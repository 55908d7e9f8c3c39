-- What filling a line from a piece of the input does to the lines that are yet to come.
use Rattle.std.specs.Prelude.{◌≡◌, ℕ, [], ◌∷◌, ◌++◌, drop, Some, None, Option}
use Rattle.rulebook.specs.Texts.{Text}
use Rattle.rulebook.specs.Lines.{lines_after}

-- whatever comes after the piece: the line goes on, or it is the first of the lines and the next begins after m bytes of the piece
abbrev pub Cuts : ℕ → Text → Text → Option ℕ → Text → Type 0
Cuts n line piece None line' = (more : Text) → lines_after n line (piece ++ more) ≡ lines_after n line' more
Cuts n line piece (Some m) line' = (more : Text) → lines_after n line (piece ++ more) ≡ line' ∷ lines_after n [] (drop m piece ++ more)
