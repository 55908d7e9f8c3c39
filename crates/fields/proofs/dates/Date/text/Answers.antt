use Rattle.std.proofs.Common.{rules}
use Rattle.rulebook.specs.Dates.{written_day}
use Rattle.fields.proofs.dates.Date.text.Goals as goal

pub returns : goal.returns
unfolding written_day
returns c = search rules
