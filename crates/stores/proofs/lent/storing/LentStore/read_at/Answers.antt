use Rattle.std.proofs.Common.{true, false, List, sym, subst}
use Rattle.rulebook.specs.Entries.{nth}
use Rattle.records.specs.Views.{entries_of}
use Rattle.records.specs.declared.Record.{Record}
use Rattle.stores.specs.Reads.{Reads}
use Rattle.stores.proofs.Reading.{reads_row, reads_past}
use Rattle.stores.proofs.lent.storing.LentStore.read_at.Goals as goal

pub returns : goal.returns
returns g c =
    let l = c.in-Some.ensures.lookup.3 in
    let r = c.in-Some.held.now in
    subst (λ (xs : List Record). Reads (nth c.args.k (entries_of xs)) c.args.into.now true r) c.held.ensures
    (subst (λ (x : Record). Reads (nth c.args.k (entries_of c.held.result.now)) c.args.into.now true x) (sym (l.1 r)) (reads_row c.held.result.now c.args.k c.args.into.now r l.0))

pub returns-in_default : goal.returns-in_default
returns-in_default g c =
    subst (λ (xs : List Record). Reads (nth c.args.k (entries_of xs)) c.args.into.now false c.args.into.now) c.held.ensures
    (reads_past c.held.result.now c.args.k c.args.into.now c.in_default.ensures.lookup.3)
