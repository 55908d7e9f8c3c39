-- Texts, their order, the fields of a line, and refusals.
-- A reader has to believe: a text is a list of bytes, the first unlike byte decides the order of two texts, fields are
-- parted by commas (byte 44), and a call is answered by a value or by a refusal.
use Rattle.std.specs.Prelude.{ℕ, ◌-◌, Bool, true, false, cond, ◌&&◌, ◌||◌, List, [], ◌∷◌, length, Ok, Err, Result, ◌==◌, nat_lt, slice_index_or}
use Rattle.grounds.specs.Grounds.{in_field}
use Rattle.grounds.specs.declared.Ground.{Ground}
use Rattle.grounds.specs.declared.Refusal.{Refusal}

abbrev pub Text : Type 0
Text = List ℕ

abbrev pub is_blank : Text → Bool
is_blank t = length t == 0

-- the order of texts, byte by byte; a text stands before its extensions
abbrev pub precedes : Text → Text → Bool
precedes [] [] = false
precedes [] (b ∷ u) = true
precedes (a ∷ t) [] = false
precedes (a ∷ t) (b ∷ u) = nat_lt a b || (a == b && precedes t u)

abbrev pub on_first : ℕ → List Text → List Text
on_first b [] = (b ∷ []) ∷ []
on_first b (f ∷ fs) = (b ∷ f) ∷ fs

-- the fields of a line
abbrev pub fields : Text → List Text
fields [] = [] ∷ []
fields (b ∷ bs) = cond (b == 44) ([] ∷ fields bs) (on_first b (fields bs))

-- the k-th field, counted from 1, and a blank where there is none
abbrev pub field_of : Text → ℕ → Text
field_of line k = slice_index_or (fields line) (k - 1) []

-- refused on this ground at this position, in a call without a line
abbrev pub refused : {X : Type 0} → Ground → ℕ → Result X Refusal
refused g p = Err (in_field 0 g p)

-- the value in an answer, seen by its text
abbrev pub viewed : {X Y E : Type 0} → (X → Y) → Result X E → Result Y E
viewed f (Ok x) = Ok (f x)
viewed f (Err e) = Err e

-- go on with the value, or hand the refusal on with nothing lost
abbrev pub onward : {X Y E : Type 0} → Result X E → (X → Result Y E) → Result Y E
onward (Ok x) f = f x
onward (Err e) f = Err e

-- a refusal found in a field tells that field
abbrev pub placed : {X : Type 0} → ℕ → Result X Refusal → Result X Refusal
placed k (Ok x) = Ok x
placed k (Err e) = Err (in_field k e.ground e.position)

-- the text itself, if it passes its test
abbrev pub passed : Ground → Bool → Text → Result Text Refusal
passed g b t = cond b (Ok t) (refused g 0)

-- a blank is let through, and another text is read
abbrev pub unless_blank : Text → Result Text Refusal → Result Text Refusal
unless_blank t r = cond (is_blank t) (Ok []) r
