use Rattle.rulebook.specs.Entries.{has_namesake}
use Rattle.stores.proofs.lent.storing.LentStore.has_namesake.Goals as goal

pub returns : goal.returns
unfolding has_namesake
returns g c = c.any.ensures
