use Rattle.std.proofs.Common.{subst}
use Rattle.remote_sharing.specs.Clients.{ClientParts, HasGrown}
use Rattle.remote_sharing.proofs.client.SharedClient.client.Goals as goal

pub returns-clause-grown : goal.returns-clause-grown
returns-clause-grown c =
    subst (λ (x : ClientParts). HasGrown x.remote) c.self.view_is c.self.invariant
