use Rattle.remote_sharing.proofs.Growing.{grown_by_receiving}
use Rattle.remote_sharing.proofs.client.SharedClient.receive.Goals as goal

pub invariant_of-self : goal.invariant_of-self
invariant_of-self c =
    grown_by_receiving c.self.inside.client c.receive.new.self c.args.bytes.now c.receive.result
    c.self.invariant c.receive.ensures.received c.receive.ensures.refused
