use Rattle.std.proofs.Common.{List, set, ap, ◌∙◌, arith}
use Rattle.records.specs.declared.Record.{Record}
use Rattle.stores.proofs.Moving.{opened_is}
use Rattle.stores.proofs.lent.Rows.add.Goals as goal

pub returns-clause-rows : goal.returns-clause-rows
returns-clause-rows c =
    ap (λ (ys : List Record). set ys c.args.p c.args.from.now) c.copy_within.ensures.after
    ∙ opened_is c.args.self.now.rows.now c.args.p c.args.self.now.used c.args.from.now (omega arith) (omega arith)
