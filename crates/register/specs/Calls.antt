-- A list of calls, each with its own bytes and buffer or record, and the history that it leaves.
use Rattle.std.specs.Prelude.{List, [], ◌∷◌, vec_items}
use Rattle.rulebook.specs.Texts.{Text}
use Rattle.rulebook.specs.Records.{Entry}
use Rattle.rulebook.specs.Histories.{Event, submitted, looked_up, History, verdict_of}
use Rattle.records.specs.Views.{entry_of, placeholder}
use Rattle.register.specs.declared.calls.Call.{Call}
use Rattle.register.specs.declared.calls.Call.TheVariants.{Submit, LookUp}

-- what a call asks, whatever its answer
pub data Asking : Type 0 where
  line : Text → Asking
  code : Text → Asking

abbrev pub asked_by : Call → Asking
asked_by (Submit l buffer reply) = line (vec_items l)
asked_by (LookUp t into answer) = code (vec_items t)

-- the buffer and the record that a call brings
abbrev pub buffer_of : Call → Text
buffer_of (Submit l buffer reply) = vec_items buffer
buffer_of (LookUp t into answer) = []

abbrev pub record_of : Call → Entry
record_of (Submit l buffer reply) = placeholder
record_of (LookUp t into answer) = entry_of into

-- a call as it was before, and as it is after it was made
abbrev pub event_of : Call → Call → Event
event_of before (Submit l buffer reply) = submitted (vec_items l) (buffer_of before) (verdict_of reply.verdict) reply.length (vec_items buffer)
event_of before (LookUp t into answer) = looked_up (vec_items t) (record_of before) (verdict_of answer) (entry_of into)

-- the history of h and then these calls, the newest first
abbrev pub history_on : History → List Call → List Call → History
history_on h [] after = h
history_on h (b ∷ before) [] = h
history_on h (b ∷ before) (a ∷ after) = history_on (event_of b a ∷ h) before after

abbrev pub history_of : List Call → List Call → History
history_of before after = history_on [] before after
