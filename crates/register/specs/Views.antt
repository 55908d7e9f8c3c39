-- What a register means: its office, and the records and the room of its store; and what its calls come to.
-- A parameter `means` has what a store means: the members of the trait, as the store's type gives them.
use Rattle.std.specs.Prelude.{Result}
use Rattle.grounds.specs.declared.Refusal.{Refusal}
use Rattle.rulebook.specs.Texts.{Text}
use Rattle.rulebook.specs.Records.{Entry}
use Rattle.rulebook.specs.Histories.{State, verdict_of, Answered, Looked, submitted, looked_up}
use Rattle.rulebook.specs.Lasting.{Carries}
use Rattle.eic.specs.Views.{office_text}
use Rattle.stores.specs.declared.store.Store.{Ghosts}
use Rattle.register.specs.declared.Register.{Register}
use Rattle.register.specs.declared.Reply.{Reply}

-- an office and a store, by what stores mean
abbrev pub state_with : {S : Type 0} → Ghosts S → Text → S → State
state_with means office store = record { office = office; entries = means.entries store; room = means.room store }

abbrev pub state_of : {S : Type 0} → Ghosts S → Register S → State
state_of means r = state_with means (office_text r.office) r.store

-- a line and a buffer, the reply, and the buffer and the register after it
abbrev pub Submits : {S : Type 0} → Ghosts S → Register S → Text → Text → Reply → Text → Register S → Type 0
Submits means r line before reply after r' =
    Answered (state_of means r) line before (verdict_of reply.verdict) reply.length after (state_of means r')

-- such a call carries every history on, and the law with it
abbrev pub SubmitCarries : {S : Type 0} → Ghosts S → Register S → Text → Text → Reply → Text → Register S → Type 0
SubmitCarries means r line before reply after r' =
    Carries (state_of means r) (submitted line before (verdict_of reply.verdict) reply.length after) (state_of means r')

-- a text and the caller's record, the answer, and the caller's record after it
abbrev pub LooksUp : {S : Type 0} → Ghosts S → Register S → Text → Entry → Result (Unit {0}) Refusal → Entry → Type 0
LooksUp means r text before answer after = Looked (state_of means r) text before (verdict_of answer) after

abbrev pub LookCarries : {S : Type 0} → Ghosts S → Register S → Text → Entry → Result (Unit {0}) Refusal → Entry → Type 0
LookCarries means r text before answer after =
    Carries (state_of means r) (looked_up text before (verdict_of answer) after) (state_of means r)
