use Rattle.std.proofs.Common.{◌≡◌, rules}
use Rattle.std.proofs.lemmas.Fn.{always_returns_same}
use Rattle.eic.specs.Views.{code_text}
use Rattle.bycode.proofs.Searching.{by_code, searched}
use Rattle.bycode.proofs.order.AscendingOrder.search.Goals as goal

pub returns : goal.returns
returns c = λ u.
    let e = c.binary_search_by.ensures in
    searched (code_text c.args.code.now) c.args.rows.now c.binary_search_by.result e.bound
    (e.position (by_code (code_text c.args.code.now)) (always_returns_same _ (λ a r. r ≡ by_code (code_text c.args.code.now) a.0.now) _ (λ a r f k. search rules))) u
