use Rattle.std.proofs.Common.{◌≡◌, drop}
use Rattle.rulebook.specs.Entries.{any, is_namesake}
use Rattle.eic.specs.Views.{code_text}
use Rattle.fields.specs.Views.{display_text}
use Rattle.stores.proofs.store.Store.has_namesake.Given as goal

abbrev pub invariant-loop-k : goal.invariant-loop-k
invariant-loop-k g l = any (is_namesake (code_text l.code) (display_text l.display)) (drop l.k (g.Self.Store.entries l.self)) ≡ any (is_namesake (code_text l.code) (display_text l.display)) (g.Self.Store.entries l.self)
