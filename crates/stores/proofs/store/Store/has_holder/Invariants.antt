use Rattle.std.proofs.Common.{◌≡◌, drop}
use Rattle.rulebook.specs.Entries.{any, is_holder}
use Rattle.fields.specs.Views.{object_text, function_text}
use Rattle.stores.proofs.store.Store.has_holder.Given as goal

abbrev pub invariant-loop-k : goal.invariant-loop-k
invariant-loop-k g l = any (is_holder (object_text l.object) (function_text l.function)) (drop l.k (g.Self.Store.entries l.self)) ≡ any (is_holder (object_text l.object) (function_text l.function)) (g.Self.Store.entries l.self)
