use Rattle.std.proofs.Common.{◌≡◌, true, false, List, Some, sym, ap, ◌∙◌, subst, arith}
use Rattle.rulebook.specs.Entries.{find}
use Rattle.eic.specs.Views.{code_text}
use Rattle.records.specs.Views.{entry_of, entries_of}
use Rattle.records.specs.declared.Record.{Record}
use Rattle.stores.specs.Reads.{Reads}
use Rattle.stores.proofs.Reading.{reads_there, reads_none}
use Rattle.stores.proofs.Placing.{row_found, lacking}
use Rattle.stores.proofs.lent.storing.LentStore.read.Goals as goal

pub bounds-rows-p : goal.bounds-rows-p
bounds-rows-p g c =
    let u = subst (λ (xs : List Record). g.O.Order.stands (entries_of xs) ≡ true) (sym c.held-rows.ensures) c.args.self.now.stands in
    (row_found _ _ _ _ g.O.Order.is_order (code_text c.args.code.now) c.held-rows.result.now c.in-Ok.p c.args.into.now u (c.in-Ok.ensures u)).0

pub offset_bounds-rows-p : goal.offset_bounds-rows-p
offset_bounds-rows-p g c = let h = bounds-rows-p g c in let t = c.held-rows.type_inv in omega arith

pub returns-in-Ok : goal.returns-in-Ok
returns-in-Ok g c =
    let u = subst (λ (xs : List Record). g.O.Order.stands (entries_of xs) ≡ true) (sym c.held-rows.ensures) c.args.self.now.stands in
    let r = c.index-rows-p.result in
    let f = (row_found _ _ _ _ g.O.Order.is_order (code_text c.args.code.now) c.held-rows.result.now c.in-Ok.p r u (c.in-Ok.ensures u)).1 in
    subst (λ (xs : List Record). Reads (find (code_text c.args.code.now) (entries_of xs)) c.args.into.now true r) c.held-rows.ensures
    (reads_there _ c.args.into.now r (f ∙ ap (λ (x : Record). Some (entry_of x)) (sym c.index-rows-p.is)))

pub returns-in-Err : goal.returns-in-Err
returns-in-Err g c =
    let u = subst (λ (xs : List Record). g.O.Order.stands (entries_of xs) ≡ true) (sym c.held-rows.ensures) c.args.self.now.stands in
    let t = code_text c.args.code.now in
    subst (λ (xs : List Record). Reads (find t (entries_of xs)) c.args.into.now false c.args.into.now) c.held-rows.ensures
    (reads_none _ c.args.into.now (lacking _ _ _ _ g.O.Order.is_order t (entries_of c.held-rows.result.now) _ u (c.in-Err.ensures u)).unheld)
