-- Lists of records by their texts: what is held under a code, and what is asked of all records.
-- A reader has to believe: a code is found by its characters, and every record counts, active or not.
use Rattle.std.specs.Prelude.{ℕ, zero, suc, ◌<◌, Bool, false, cond, not, ◌&&◌, ◌||◌, List, [], ◌∷◌, length, is_some, Some, None, Option, ◌==◌, ◌≢◌, slice_index_or}
use Rattle.std.specs.Str.{bytes_eq}
use Rattle.rulebook.specs.Texts.{Text}
use Rattle.rulebook.specs.Codes.{type_of}
use Rattle.rulebook.specs.Records.{Entry}

-- the record with the code c
abbrev pub find : Text → List Entry → Option Entry
find c [] = None
find c (e ∷ es) = cond (bytes_eq e.code c) (Some e) (find c es)

abbrev pub is_held : Text → List Entry → Bool
is_held c es = is_some (find c es)

-- the k-th record, counted from 0
abbrev pub nth : ℕ → List Entry → Option Entry
nth k [] = None
nth zero (e ∷ es) = Some e
nth (suc k) (e ∷ es) = nth k es

-- no two records have the same code
abbrev pub Apart : List Entry → Type 0
Apart es = (i j : ℕ) (d : Entry) → i < j → j < length es → (slice_index_or es i d).code ≢ (slice_index_or es j d).code

-- the record e in place of the one with its code
abbrev pub replacing : Entry → List Entry → List Entry
replacing e [] = []
replacing e (x ∷ es) = cond (bytes_eq x.code e.code) (e ∷ es) (x ∷ replacing e es)

-- some record passes the test
abbrev pub any : (Entry → Bool) → List Entry → Bool
any p [] = false
any p (e ∷ es) = p e || any p es

-- the record has this object in this function
abbrev pub is_holder : Text → Text → Entry → Bool
is_holder object function e = bytes_eq e.registration.object object && bytes_eq e.registration.function function

unfoldable pub has_holder : Text → Text → List Entry → Bool
has_holder object function es = any (is_holder object function) es

-- the record has another code of the same type, and this display name
abbrev pub is_namesake : Text → Text → Entry → Bool
is_namesake c display e = type_of e.code == type_of c && (bytes_eq e.registration.display display && not (bytes_eq e.code c))

unfoldable pub has_namesake : Text → Text → List Entry → Bool
has_namesake c display es = any (is_namesake c display) es
