use Rattle.std.proofs.Common.{List, ℕ, IfErr, ap, subst, sym, ◌∙◌}
use Rattle.secure_log.specs.LogEntries.Chain.{span}
use Rattle.node_logs.specs.Steps.Nodes.{NodeParts}
use Rattle.nodes.specs.Sides.{IsEnvelopeText, StopsReceiving}
use Rattle.nodes.proofs.OfSides.{received_or_stops}
use Rattle.nodes.proofs.sides.receive_reply.Goals as goal

pub returns-clause-received : goal.returns-clause-received
returns-clause-received c e text =
    (received_or_stops c.args.client.now c.take_reply.new.client c.node.result.now e c.last_number.result
    c.new.result c.write_ack.new.text.items c.write_ack.result
    (c.in_ok-take_reply.ensures.told e (subst (IsEnvelopeText e) (sym c.new.ensures) text))
    c.in_ok-take_reply.ensures.sender c.node.ensures.node
    (c.last_number.ensures ∙ ap (λ (n : NodeParts). span n.entries) c.node-2.ensures.node)
    c.write_ack.ensures.written).0

pub returns-clause-stops : goal.returns-clause-stops
returns-clause-stops c e text =
    subst (λ (b : List ℕ). IfErr c.write_ack.result (λ f. StopsReceiving c.args.client.now e b f c.take_reply.new.client))
    c.new.ensures
    ((received_or_stops c.args.client.now c.take_reply.new.client c.node.result.now e c.last_number.result
    c.new.result c.write_ack.new.text.items c.write_ack.result
    (c.in_ok-take_reply.ensures.told e (subst (IsEnvelopeText e) (sym c.new.ensures) text))
    c.in_ok-take_reply.ensures.sender c.node.ensures.node
    (c.last_number.ensures ∙ ap (λ (n : NodeParts). span n.entries) c.node-2.ensures.node)
    c.write_ack.ensures.written).1)
