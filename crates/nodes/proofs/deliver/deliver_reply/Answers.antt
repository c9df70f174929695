use Rattle.std.proofs.Common.{List, ℕ, subst, ◌∙◌}
use Rattle.nodes.specs.Delivery.{MayTake}
use Rattle.nodes.proofs.OfExchanges.Reached.{call_found}
use Rattle.nodes.proofs.Handed.{envelope_written}
use Rattle.nodes.proofs.deliver.deliver_reply.Goals as goal

pub returns-clause-takes : goal.returns-clause-takes
returns-clause-takes c e h =
    c.take_reply.ensures.takes e
    (call_found c.args.server.now c.node.result.now c.args.client.now _ c.args.number e _ _ c.node.ensures.node
    c.in_ok-write_envelope.ensures.sender c.in_ok-write_envelope.ensures.written
    (c.envelope-incoming.ensures ∙ c.deref.ensures.value) h)

pub returns-clause-told : goal.returns-clause-told
returns-clause-told c e h =
    subst (λ (b : List ℕ). MayTake c.args.client.now b e c.take_reply.result c.take_reply.new.client)
    (c.envelope-incoming.ensures ∙ c.deref.ensures.value)
    (c.take_reply.ensures.told e
    (envelope_written c.args.server.now c.node.result.now c.args.number e _ _ c.node.ensures.node
    c.in_ok-write_envelope.ensures.written (c.envelope-incoming.ensures ∙ c.deref.ensures.value) h))
