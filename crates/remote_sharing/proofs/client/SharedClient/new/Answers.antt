use Rattle.remote_sharing.proofs.Growing.{empty_has_grown}
use Rattle.remote_sharing.proofs.client.SharedClient.new.Goals as goal

pub invariant_of-result : goal.invariant_of-result
invariant_of-result c = empty_has_grown c.args.client (c.is_empty.ensures.0 c.if-not-is_empty.false)
