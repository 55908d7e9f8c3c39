use Rattle.std.proofs.Common.{refl}
use Rattle.rulebook.specs.Dates.{written_day}
use Rattle.fields.proofs.dates.Date.first.Goals as goal

pub returns : goal.returns
unfolding written_day
returns c = refl
