use Rattle.std.proofs.Common.{eqb, ◌+◌, rules, tests, sym, ap, ◌∙◌}
use Rattle.std.proofs.lemmas.Iterator.{YieldsList-from_slice}
use Rattle.std.proofs.lemmas.Iterator.Consumers.{count_from_yields_List, YieldsList-from_filter}
use Rattle.requests.proofs.Parting.{one_more}
use Rattle.requests.proofs.cutting.count.Goals as goal

pub returns : goal.returns
returns c =
    ap (λ n. n + 1) (count_from_yields_List _ _ c.count.ensures.ran
    (YieldsList-from_filter _ (λ b. eqb b 44) (YieldsList-from_slice c.args.line.now (cc)) c.filter.ensures.closure (λ x b q k. search (rules, tests))))
    ∙ sym (one_more c.args.line.now)
