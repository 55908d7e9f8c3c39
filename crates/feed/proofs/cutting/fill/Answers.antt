use Rattle.std.proofs.Common.{sym, ◌∙◌, rules}
use Rattle.feed.proofs.Fronts.{filled_none, filled_some}
use Rattle.feed.proofs.cutting.fill.Goals as goal

pub returns-in-Some : goal.returns-in-Some
returns-in-Some g c =
    let f = filled_some g.row.N _ _ _ c.keep.ensures.before c.in-Some.at (sym c.first_end.ensures.place ∙ c.in-Some.is) c.keep.ensures.kept in
    record { bound = search rules; done = f.done; cuts = f.cuts; line = f.kept }

pub returns-in-None : goal.returns-in-None
returns-in-None g c =
    let f = filled_none g.row.N _ _ _ c.keep-in-None.ensures.before (sym c.first_end.ensures.place ∙ c.in-None.is) c.keep-in-None.ensures.kept in
    record { bound = tt; done = f.done; cuts = f.cuts; line = f.kept }
