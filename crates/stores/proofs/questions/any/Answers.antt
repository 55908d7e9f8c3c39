use Rattle.std.proofs.Common.{◌<◌, length, sym, ◌∙◌, arith}
use Rattle.rulebook.proofs.Entries.{any_end}
use Rattle.stores.proofs.Scans.{scan_hit, scan_miss}
use Rattle.stores.proofs.questions.any.Goals as goal

pub returns-then-ask : goal.returns-then-ask
returns-then-ask g c =
    let es = g.S.Store.entries c.args.store.now in
    let h : c.loop-k.k < length es = omega (arith, c.count-k-end.ensures) in
    sym (scan_hit (g.Q.Question.asks c.args.question.now) es c.loop-k.k h c.loop-k.held c.read_at-there.new.into c.read_at-there.result c.read_at-there.ensures c.if-ask.ensures) ∙ c.loop-k.invariant

pub loop-k-preserved : goal.loop-k-preserved
loop-k-preserved g c =
    let es = g.S.Store.entries c.args.store.now in
    let h : c.loop-k.k < length es = omega (arith, c.count-k-end.ensures) in
    sym (scan_miss (g.Q.Question.asks c.args.question.now) es c.loop-k.k h c.loop-k.held c.read_at-there.new.into c.read_at-there.result c.read_at-there.ensures c.if-ask.ensures) ∙ c.loop-k.invariant

pub returns : goal.returns
returns g c =
    sym (any_end (g.Q.Question.asks c.args.question.now) (g.S.Store.entries c.args.store.now) c.loop-k.k (omega (arith, c.count-k-end.ensures))) ∙ c.loop-k.invariant
