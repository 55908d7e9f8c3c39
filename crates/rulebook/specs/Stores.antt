-- What a store does with a record that is written.
-- A reader has to believe: a store means the records it holds, no two with the same code, and a number, its room.
-- Writing a record whose code is held replaces that record alone and is never refused; writing another takes one of the
-- room, and is refused where there is none. The order of the records after a write is left open.
use Rattle.std.specs.Prelude.{◌≡◌, ℕ, ◌-◌, min, Bool, true, cond, ◌||◌, List, ◌∷◌, nat_lt}
use Rattle.std.specs.List.Sorted.{IsPermutation}
use Rattle.rulebook.specs.Records.{Entry}
use Rattle.rulebook.specs.Entries.{is_held, replacing}

-- how many records so many rows hold at most
abbrev pub limit : ℕ → ℕ
limit rows = min rows 4096

abbrev pub is_accepted : Entry → List Entry → ℕ → Bool
is_accepted e es room = is_held e.code es || nat_lt 0 room

-- the records after a write, in some order
abbrev pub written : Entry → List Entry → List Entry
written e es = cond (is_held e.code es) (replacing e es) (e ∷ es)

abbrev pub room_after : Entry → List Entry → ℕ → ℕ
room_after e es room = cond (is_held e.code es) room (room - 1)

-- what a write of e into the records es with so much room answers, and the records and the room after it
pub record Writes (e : Entry) (es : List Entry) (room : ℕ) (accepted : Bool) (es' : List Entry) (room' : ℕ) : Type 0 where
  pub told : accepted ≡ is_accepted e es room
  pub list : accepted ≡ true → IsPermutation (written e es) es'
  pub left : accepted ≡ true → room' ≡ room_after e es room
