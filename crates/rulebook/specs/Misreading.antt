-- How a text is misread, and that no misreading of it is right.
-- A reader has to believe: these three slips are the ones that a clerk is protected from.
use Rattle.std.specs.Prelude.{◌≡◌, ℕ, ◌<◌, false, length, ◌≢◌, slice_index, slice_set}
use Rattle.rulebook.specs.Texts.{Text}
use Rattle.rulebook.specs.Schemes.{Scheme, is_right}

pub data Misread (t : Text) : Text → Type 0 where
  -- one character is replaced by another byte
  replaced : (i b : ℕ) → i < length t → (b ≢ slice_index t i) → Misread t (slice_set t i b)
  -- two unlike characters are exchanged
  exchanged : (i j : ℕ) → i < length t → j < length t → (slice_index t i ≢ slice_index t j)
      → Misread t (slice_set (slice_set t i (slice_index t j)) j (slice_index t i))
  -- two equal characters are both replaced by one other byte
  twinned : (i j b : ℕ) → i < length t → j < length t → (i ≢ j) → slice_index t i ≡ slice_index t j → (b ≢ slice_index t i)
      → Misread t (slice_set (slice_set t i b) j b)

-- no misreading of t is right
abbrev pub CatchesMisread : Scheme → Text → Type 0
CatchesMisread s t = (u : Text) → Misread t u → is_right s u ≡ false
