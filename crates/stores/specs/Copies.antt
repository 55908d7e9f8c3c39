-- What copying all records of a store into another comes to.
use Rattle.std.specs.Prelude.{ℕ, cond, List, length, Ok, Err, Result, nat_lt}
use Rattle.rulebook.specs.Records.{Entry}
use Rattle.stores.specs.declared.copying.Unfit.{Unfit}
use Rattle.stores.specs.declared.copying.Unfit.TheVariants.{HoldsRecords, LacksRoom}

-- whether a store with the records `held` and so much room takes the records es, or why not
abbrev pub unfit_for : List Entry → List Entry → ℕ → Result (Unit {0}) Unfit
unfit_for es held room = cond (nat_lt 0 (length held)) (Err HoldsRecords) (cond (nat_lt room (length es)) (Err LacksRoom) (Ok tt))
