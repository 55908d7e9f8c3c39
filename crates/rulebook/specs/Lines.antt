-- An input cut into lines, of which the first n bytes are kept.
-- A reader has to believe: a line is ended by byte 10 or by the end of the input, and an input that ends in byte 10 has no further line.
use Rattle.std.specs.Prelude.{ℕ, suc, cond, List, [], ◌∷◌, ◌++◌, take, Some, None, Option, ◌==◌}
use Rattle.rulebook.specs.Texts.{Text, is_blank}

-- the lines of what is left of an input, where the line that it goes on with has begun with these bytes
abbrev pub lines_after : ℕ → Text → Text → List Text
lines_after n line [] = cond (is_blank line) [] (line ∷ [])
lines_after n line (b ∷ bs) = cond (b == 10) (line ∷ lines_after n [] bs) (lines_after n (take n (line ++ (b ∷ []))) bs)

-- the lines of an input
abbrev pub lines_of : ℕ → Text → List Text
lines_of n input = lines_after n [] input

-- the place after the first byte 10, with i bytes before
abbrev pub after_end : ℕ → Text → Option ℕ
after_end i [] = None
after_end i (b ∷ bs) = cond (b == 10) (Some (suc i)) (after_end (suc i) bs)

-- the bytes before the first byte 10
abbrev pub to_end : Text → Text
to_end [] = []
to_end (b ∷ bs) = cond (b == 10) [] (b ∷ to_end bs)
