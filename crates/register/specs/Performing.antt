-- What a line does to a state, its answer line aside.
use Rattle.std.specs.Prelude.{◌≡◌, ℕ, Result}
use Rattle.grounds.specs.declared.Refusal.{Refusal}
use Rattle.std.specs.List.Sorted.{IsPermutation}
use Rattle.rulebook.specs.Texts.{Text, viewed}
use Rattle.rulebook.specs.Records.{Entry}
use Rattle.rulebook.specs.Outcomes.{Grant, outcome, entry_in, list_after, room_left}
use Rattle.rulebook.specs.Histories.{State}

-- the answer to an outcome, and the state after it
pub record Comes (o : Result Grant Refusal) (s : State) (answer : Result Entry Refusal) (s' : State) : Type 0 where
  pub told : answer ≡ viewed entry_in o
  pub office : s'.office ≡ s.office
  pub entries : IsPermutation (list_after o s.entries) s'.entries
  pub room : s'.room ≡ room_left o s.room

-- the outcome of a line with an answer buffer of so many bytes
abbrev pub outcome_of : State → Text → ℕ → Result Grant Refusal
outcome_of s line size = outcome s.office s.entries s.room line size
