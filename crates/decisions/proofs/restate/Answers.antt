use Rattle.std.proofs.Common.{◌≡◌, Bool, false, List, Some, Ok, sym, refl, ap, ◌∙◌, rules}
use Rattle.std.specs.Option.{option_map}
use Rattle.rulebook.specs.Texts.{Text}
use Rattle.rulebook.specs.Dates.{is_earlier}
use Rattle.rulebook.specs.Records.{Entry}
use Rattle.rulebook.specs.Entries.{find}
use Rattle.rulebook.specs.Outcomes.{Action, revised, grounded, moved, entry, restated}
use Rattle.rulebook.proofs.Entries.{find_some}
use Rattle.eic.specs.Views.{code_text}
use Rattle.records.specs.Views.{entry_of}
use Rattle.decisions.proofs.restate.Goals as goal

-- the record with the code c, after an action that its status and date allow
restated_is : (es : List Entry) (a : Action) (d c : Text) (e : Entry) (active : Bool) → find c es ≡ Some e → grounded 3 (moved (Some e.active) a) ≡ Ok active → is_earlier d e.date ≡ false
    → restated es a d c ≡ Ok (revised (entry e.code active d e.registration))
restated_is es a d c e active f m n = rw (f, m, n, sym (find_some c es e f).1) refl

pub returns : goal.returns
returns g c =
    let f : find (code_text c.args.dated.now.code) (g.S.Store.entries c.args.store.now) ≡ Some (entry_of c.in-Some.held) = sym c.get-held.ensures ∙ ap (option_map entry_of) c.in-Some.is in
    sym (restated_is (g.S.Store.entries c.args.store.now) _ _ _ _ _ f (search rules) (sym c.if-is_before.ensures))
