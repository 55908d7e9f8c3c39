-- What reading the next line shows.
use Rattle.std.specs.Prelude.{◌≡◌, ℕ, [], is_some, Some, None, Option, Result, IfOk, OnErr}
use Rattle.std.specs.Borrow.{Fml, RattleType, Bor, MutBor}
use Rattle.std.specs.Io.BufRead.{Rests}
use Rattle.rulebook.specs.Texts.{Text}
use Rattle.feed.specs.Readers.{Next, line_of, unread_text}
use Rattle.feed.specs.Known.{Reads}
use Rattle.feed.specs.contracts.lines.LineReader.{the_row}

-- the text that is shown, and the empty one where there is none
abbrev pub shown : Option (Bor Text) → Text
shown None = []
shown (Some line) = line.now

-- what is shown is the next line, and the reader holds what it leaves once the line is no longer borrowed; where reading fails, nothing is unread
abbrev pub ShowsNext : {E : Type 0} → (N : RattleType) (n : ℕ) → MutBor (the_row N).Denot → Option Text → Option Text → Result (Option (Bor Text)) E → Fml
ShowsNext N n reader input rest result =
    Rests (the_row N) reader (λ new. IfOk result (λ line.
    Next n (unread_text reader.now) (is_some line) (shown line) (unread_text new)
    × Reads n (unread_text reader.now) input (is_some line) (shown line) (unread_text new) rest
    × (line_of new ≡ shown line))
    × OnErr result (unread_text new ≡ []))
