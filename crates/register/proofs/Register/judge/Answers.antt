use Rattle.std.proofs.Common.{rules}
use Rattle.eic.specs.Views.{office_text}
use Rattle.register.proofs.Carrying.{judged_made}
use Rattle.register.proofs.Register.judge.Goals as goal

pub returns-clause-fits : goal.returns-clause-fits
returns-clause-fits g c = judged_made (office_text c.args.self.now.office) (g.S.Store.entries c.args.self.now.store) c.args.line.now c.decide.result (search rules)
