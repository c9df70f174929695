use Rattle.std.proofs.Common.{take}
use Rattle.std.specs.Prelude.{All}
use Rattle.serving.specs.auditing.Accounts.{HasAccount}
use Rattle.serving.proofs.run.have_accounts.Given as goal

-- the logs of the clients so far are accounted for
abbrev pub invariant-loop-client : goal.invariant-loop-client
invariant-loop-client l = All (HasAccount l.reports l.places) (take l.client-index l.clients)
