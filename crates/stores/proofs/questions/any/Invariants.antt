use Rattle.std.proofs.Common.{◌≡◌, drop}
use Rattle.rulebook.specs.Entries.{any}
use Rattle.stores.proofs.questions.any.Given as goal

abbrev pub invariant-loop-k : goal.invariant-loop-k
invariant-loop-k g l = any (g.Q.Question.asks l.question) (drop l.k (g.S.Store.entries l.store)) ≡ any (g.Q.Question.asks l.question) (g.S.Store.entries l.store)
