-- What a reader of lines holds, and what reading the next line does.
use Rattle.std.specs.Prelude.{◌≡◌, ℕ, Bool, true, false, [], ◌++◌, take, drop, Some, None, Option}
use Rattle.rulebook.specs.Texts.{Text}
use Rattle.rulebook.specs.Lines.{after_end, to_end}
use Rattle.feed.specs.declared.lines.LineReader.{LineReader}

abbrev pub line_of : {n : ℕ} → LineReader n → Text
line_of r = r.line.items

-- what is read and not yet cut
abbrev pub unread_text : {n : ℕ} → LineReader n → Text
unread_text r = r.unread

-- what is left of a text after so many bytes, and nothing where it is used up
abbrev pub left_of : Option ℕ → Text → Text
left_of None t = []
left_of (Some m) t = drop m t

-- the line ends in what was unread: it is the line, and the rest is unread
pub record Ended (n : ℕ) (unread : Text) (m : ℕ) (some : Bool) (line left : Text) : Type 0 where
  pub told : some ≡ true
  pub whole : line ≡ take n (to_end unread)
  pub rest : left ≡ drop m unread

-- it does not: what was unread is the beginning of the line, and more of it comes from the input
pub record Begun (n : ℕ) (unread : Text) (some : Bool) (line : Text) : Type 0 where
  pub told : some ≡ false → line ≡ []
  pub more : Text
  pub begins : line ≡ take n (unread ++ more)

abbrev pub NextBy : Option ℕ → ℕ → Text → Bool → Text → Text → Type 0
NextBy (Some m) n unread some line left = Ended n unread m some line left
NextBy None n unread some line left = Begun n unread some line

abbrev pub Next : ℕ → Text → Bool → Text → Text → Type 0
Next n unread some line left = NextBy (after_end 0 unread) n unread some line left
