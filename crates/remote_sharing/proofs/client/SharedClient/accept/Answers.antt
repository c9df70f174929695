use Rattle.remote_sharing.specs.Clients.{Takes}
use Rattle.remote_sharing.proofs.Growing.{grown}
use Rattle.remote_sharing.proofs.client.SharedClient.accept.Goals as goal

pub invariant_of-self : goal.invariant_of-self
invariant_of-self c =
    grown (Takes c.args.call.now.pending.number) c.self.inside.client c.accept.new.self c.self.invariant
    c.accept.ensures.logs
