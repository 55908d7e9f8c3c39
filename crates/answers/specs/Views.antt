-- A line, put together from a word and its fields.
use Rattle.std.specs.Prelude.{◌++◌, List, map}
use Rattle.std.specs.Borrow.{Bor}
use Rattle.rulebook.specs.Texts.{Text}
use Rattle.rulebook.specs.Answers.{tails}

abbrev pub line_of : Text → List (Bor Text) → Text
line_of word fields = word ++ tails (map (λ f. f.now) fields)
