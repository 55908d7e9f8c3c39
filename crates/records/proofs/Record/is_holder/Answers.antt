use Rattle.std.proofs.Common.{rules, ◌∙◌, lit≤}
use Rattle.fields.proofs.Same.{number_eq}
use Rattle.records.proofs.Record.is_holder.Goals as goal

pub returns-then-eq : goal.returns-then-eq
returns-then-eq c =
    let o = c.if-eq.ensures ∙ number_eq 10 (lit≤ tt) c.args.self.now.registration.object c.args.object.now in
    let f = c.eq-then-eq.ensures ∙ number_eq 2 (lit≤ tt) c.args.self.now.registration.function c.args.function.now in
    search rules

pub returns-else-eq : goal.returns-else-eq
returns-else-eq c =
    let o = c.if-eq.ensures ∙ number_eq 10 (lit≤ tt) c.args.self.now.registration.object c.args.object.now in
    search rules
