use Rattle.std.proofs.Common.{◌∙◌, rules}
use Rattle.std.proofs.lemmas.Iterator.{YieldsList-from_slice}
use Rattle.std.proofs.lemmas.Iterator.Search.{position_from_yields_List}
use Rattle.eic.specs.Views.{code_text}
use Rattle.bywrite.proofs.Searching.{has_code, searched}
use Rattle.bywrite.proofs.order.LastWriteOrder.search.Goals as goal

pub returns : goal.returns
returns c = λ u.
    let t = code_text c.args.code.now in
    c.ok_or.ensures.value
    ∙ searched t c.args.rows.now c.position.result
    (position_from_yields_List (has_code t) _ _ c.position.result c.position.ensures.ran (YieldsList-from_slice c.args.rows.now (cc)) (λ x b q k. search rules))
