use Rattle.std.proofs.Common.{rules}
use Rattle.rulebook.specs.Requests.{asked}
use Rattle.eic.specs.Views.{office_text}
use Rattle.rulebook.proofs.Own.{verbatim}
use Rattle.requests.proofs.commands.read_line.Goals as goal

pub returns-in_err-request : goal.returns-in_err-request
unfolding asked
returns-in_err-request c = record { is = search rules; verbatim = verbatim (office_text c.args.office.now) c.args.line.now }

pub returns : goal.returns
unfolding asked
returns c = record { is = search rules; verbatim = verbatim (office_text c.args.office.now) c.args.line.now }
