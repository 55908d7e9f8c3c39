-- What actions and decisions stand for.
use Rattle.std.specs.Prelude.{Some, None, Ok, Err, Option, Result}
use Rattle.grounds.specs.declared.Refusal.{Refusal}
use Rattle.rulebook.specs.Outcomes as rules
use Rattle.records.specs.Views.{entry_of}
use Rattle.decisions.specs.declared.moves.Action.{Action}
use Rattle.decisions.specs.declared.moves.Action.TheVariants.{Create, Change, Deactivate, Reactivate}
use Rattle.decisions.specs.declared.Grant.{Grant}
use Rattle.decisions.specs.declared.Grant.TheVariants.{Created, Revised, Shown}

abbrev pub action_of : Action → rules.Action
action_of Create = rules.creation
action_of Change = rules.change
action_of Deactivate = rules.deactivation
action_of Reactivate = rules.reactivation

abbrev pub grant_of : Grant → rules.Grant
grant_of (Created r) = rules.created (entry_of r)
grant_of (Revised r) = rules.revised (entry_of r)
grant_of (Shown r) = rules.shown (entry_of r)

-- the refusal in an answer, where there is one
abbrev pub refusal_in : {X : Type 0} → Result X Refusal → Option Refusal
refusal_in (Ok x) = None
refusal_in (Err e) = Some e
