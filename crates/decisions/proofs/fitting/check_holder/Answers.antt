use Rattle.std.proofs.Common.{not, rules, ap, ◌∙◌, lit≤}
use Rattle.fields.proofs.Same.{number_eq}
use Rattle.rulebook.specs.Outcomes.{other_holder}
use Rattle.decisions.proofs.fitting.check_holder.Goals as goal

pub returns-then-ne : goal.returns-then-ne
unfolding other_holder
returns-then-ne c =
    let object = c.if-ne.ensures ∙ ap not (number_eq 10 (lit≤ tt) c.args.new.now.object c.args.kept.now.object) in
    search rules

pub returns-then-ne-2 : goal.returns-then-ne-2
unfolding other_holder
returns-then-ne-2 c =
    let object = c.if-ne.ensures ∙ ap not (number_eq 10 (lit≤ tt) c.args.new.now.object c.args.kept.now.object) in
    let function = c.if-ne-2.ensures ∙ ap not (number_eq 2 (lit≤ tt) c.args.new.now.function c.args.kept.now.function) in
    search rules

pub returns : goal.returns
unfolding other_holder
returns c =
    let object = c.if-ne.ensures ∙ ap not (number_eq 10 (lit≤ tt) c.args.new.now.object c.args.kept.now.object) in
    let function = c.if-ne-2.ensures ∙ ap not (number_eq 2 (lit≤ tt) c.args.new.now.function c.args.kept.now.function) in
    search rules
