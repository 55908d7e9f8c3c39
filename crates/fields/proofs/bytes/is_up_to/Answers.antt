use Rattle.std.proofs.Common.{rules, sym, ◌∙◌, arith}
use Rattle.std.proofs.lemmas.Iterator.{YieldsList-from_slice}
use Rattle.std.proofs.lemmas.Iterator.Search.{all_from_yields_List}
use Rattle.std.proofs.lemmas.Grind.{common_steps}
use Rattle.fields.proofs.Passes.{up_to_is, not_up_to}
use Rattle.fields.proofs.bytes.is_up_to.Goals as goal
use Rattle.fields.proofs.bytes.is_up_to.Goals.{then-contains, else-contains}

pub returns : goal.returns
returns g c test tells =
    elim c.if-contains.branch [
      | then-contains w ↦ w.result-is ∙ all_from_yields_List test _ _ _ w.all.ensures.ran (YieldsList-from_slice c.args.text.now cc) (λ x b q k. search (rules, tells)) ∙ up_to_is c.args.most test c.args.text.now (grind (arith, common_steps)) (grind (arith, common_steps))
      | else-contains w ↦ w.result-is ∙ w.if-contains.false ∙ sym (not_up_to c.args.most test c.args.text.now (λ lo hi. grind (arith, common_steps)))
    ]
