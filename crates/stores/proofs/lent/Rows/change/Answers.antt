use Rattle.std.proofs.Common.{◌+◌, List, set, refl, ap, ◌∙◌, arith}
use Rattle.records.specs.declared.Record.{Record}
use Rattle.stores.proofs.Moving.{renewed_is}
use Rattle.stores.proofs.lent.Rows.change.Goals as goal

pub returns-clause-rows : goal.returns-clause-rows
returns-clause-rows c =
    ap (λ (ys : List Record). set ys c.args.q c.args.from.now) c.copy_within.ensures.after
    ∙ renewed_is c.args.self.now.rows.now c.args.p (c.args.q + 1) c.args.from.now (omega arith) (omega arith) c.args.q refl
