use Rattle.remote_sharing.specs.Clients.{Begins}
use Rattle.remote_sharing.proofs.Growing.{grown, grown_unbegun}
use Rattle.remote_sharing.proofs.client.SharedClient.begin.Goals as goal

pub invariant_of-self-in-Ok-begin : goal.invariant_of-self-in-Ok-begin
invariant_of-self-in-Ok-begin c =
    grown (Begins c.args.bytes.now) c.self.inside.client c.begin.new.self c.self.invariant
    c.in-Ok-begin.ensures.begun.sent

pub invariant_of-self-in-Err-begin : goal.invariant_of-self-in-Err-begin
invariant_of-self-in-Err-begin c =
    grown_unbegun c.self.inside.client c.begin.new.self c.args.bytes.now c.in-Err-begin.fault c.self.invariant
    c.in-Err-begin.ensures.stops
