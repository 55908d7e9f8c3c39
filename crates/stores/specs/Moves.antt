-- How rows move when one of them is written.
use Rattle.std.specs.Prelude.{ℕ, suc, List, ◌∷◌, ◌++◌, take, drop}
use Rattle.std.specs.List.{insert, remove}

-- the row at p goes, those after it below n move down, and r stands last of them
abbrev pub renewed : {X : Type 0} → List X → ℕ → ℕ → X → List X
renewed rows p n r = remove (take n rows) p ++ (r ∷ drop n rows)

-- the record r at p, and the rows from p below n one place on
abbrev pub opened : {X : Type 0} → List X → ℕ → ℕ → X → List X
opened rows p n r = insert (take n rows) p r ++ drop (suc n) rows
