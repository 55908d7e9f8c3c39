use Rattle.std.proofs.Common.{◌≡◌, ◌-◌, take}
use Rattle.std.specs.List.Sorted.{IsPermutation}
use Rattle.stores.proofs.copying.copy_all.Given as goal

abbrev pub invariant-loop-k : goal.invariant-loop-k
invariant-loop-k g l =
    IsPermutation (take l.k (g.A.Store.entries l.from)) (g.B.Store.entries l.into)
    × (g.B.Store.room l.into ≡ g.B.Store.room l.initial.into - l.k)
