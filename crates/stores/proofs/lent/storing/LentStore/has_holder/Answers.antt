use Rattle.rulebook.specs.Entries.{has_holder}
use Rattle.stores.proofs.lent.storing.LentStore.has_holder.Goals as goal

pub returns : goal.returns
unfolding has_holder
returns g c = c.any.ensures
