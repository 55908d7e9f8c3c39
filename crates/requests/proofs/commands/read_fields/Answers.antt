use Rattle.std.proofs.Common.{Ok}
use Rattle.rulebook.specs.Requests.{deactivates, reactivates}
use Rattle.requests.proofs.commands.read_fields.Goals as goal

pub returns-in_ok-read_dated-in-Deactivate : goal.returns-in_ok-read_dated-in-Deactivate
returns-in_ok-read_dated-in-Deactivate c = rw c.in-Deactivate.is (c.in_ok-read_dated-in-Deactivate.ensures (λ d c. Ok (deactivates d c)))

pub returns-in_ok-read_dated-in-Reactivate : goal.returns-in_ok-read_dated-in-Reactivate
returns-in_ok-read_dated-in-Reactivate c = rw c.in-Reactivate.is (c.in_ok-read_dated-in-Reactivate.ensures (λ d c. Ok (reactivates d c)))
