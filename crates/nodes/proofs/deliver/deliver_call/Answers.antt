use Rattle.std.proofs.Common.{List, ℕ, subst, sym, ◌∙◌}
use Rattle.node_logs.specs.Steps.Nodes.{NodeParts}
use Rattle.nodes.specs.Delivery.{MayReceive, ReceivesNew}
use Rattle.nodes.proofs.OfExchanges.Reached.{call_found}
use Rattle.nodes.proofs.Handed.{envelope_written}
use Rattle.nodes.proofs.deliver.deliver_call.Goals as goal

pub returns-clause-receives : goal.returns-clause-receives
returns-clause-receives c e h =
    subst (λ (n : NodeParts). ReceivesNew c.args.server.now c.args.time e c.receive-received.result n)
    (sym c.make_reply.ensures)
    (c.receive-received.ensures.receives e
    (call_found c.args.client.now c.node.result.now c.args.server.now _ c.args.number e _ _ c.node.ensures.node
    c.in_ok-write_envelope.ensures.sender c.in_ok-write_envelope.ensures.written
    (c.envelope-incoming.ensures ∙ c.deref.ensures.value) h))

pub returns-clause-told : goal.returns-clause-told
returns-clause-told c e h =
    subst (λ (n : NodeParts).
    MayReceive c.args.server.now c.args.time c.write_envelope.new.text.items e c.receive-received.result n)
    (sym c.make_reply.ensures)
    (subst (λ (b : List ℕ).
    MayReceive c.args.server.now c.args.time b e c.receive-received.result c.receive-received.new.server)
    (c.envelope-incoming.ensures ∙ c.deref.ensures.value)
    (c.receive-received.ensures.told e
    (envelope_written c.args.client.now c.node.result.now c.args.number e _ _ c.node.ensures.node
    c.in_ok-write_envelope.ensures.written (c.envelope-incoming.ensures ∙ c.deref.ensures.value) h)))
