use Rattle.std.proofs.Common.{refl}
use Rattle.rulebook.proofs.Sessions.{session_settled, history_settled}
use Rattle.rulebook.proofs.worked_session.Goals as goal

pub returns : goal.returns
returns c = record { session = session_settled; history = history_settled; count = refl }
