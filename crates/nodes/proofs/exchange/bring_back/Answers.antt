use Rattle.std.proofs.Common.{ap, ◌∙◌}
use Rattle.secure_log.specs.LogEntries.Chain.{span}
use Rattle.node_logs.specs.Steps.Nodes.{NodeParts, sender_of}
use Rattle.commitment.specs.Senders.LookUps.{envelope_at}
use Rattle.nodes.proofs.Replied.{stops_replying}
use Rattle.nodes.proofs.Unjoined.{brought_back, not_brought, not_taken, taken_it}
use Rattle.nodes.proofs.exchange.bring_back.Goals as goal

pub returns-in-Err-acknowledge_reply-clause-stops : goal.returns-in-Err-acknowledge_reply-clause-stops
returns-in-Err-acknowledge_reply-clause-stops c = λ ready.
    stops_replying c.args.client.now c.args.server.now c.deliver_reply.new.client c.acknowledge_reply.new.server
    c.args.number c.last_number-receipt.result c.in-Err-acknowledge_reply.fault ready
    c.in-Ok.ensures.takes c.in-Ok.ensures.sender
    (c.last_number-receipt.ensures ∙ ap (λ (n : NodeParts). span n.entries) c.node-2.ensures.node)
    c.in-Err-acknowledge_reply.ensures.takes

-- ---- any two

pub returns-in-Ok-acknowledge_reply-clause-replied : goal.returns-in-Ok-acknowledge_reply-clause-replied
returns-in-Ok-acknowledge_reply-clause-replied c = λ e there.
    brought_back c.args.client.now c.args.server.now c.deliver_reply.new.client c.acknowledge_reply.new.server
    c.args.number c.last_number-receipt.result c.in_ok-reply.reply.items e
    (taken_it c.args.client.now c.args.server.now c.deliver_reply.new.client c.args.number
    c.deliver_reply.new.text.items e there (c.in-Ok.ensures.told e there))
    c.in-Ok.ensures.sender
    (c.last_number-receipt.ensures ∙ ap (λ (n : NodeParts). span n.entries) c.node-2.ensures.node)
    (c.in_ok-reply.ensures.copied e
    (ap (λ (n : NodeParts). envelope_at (sender_of n) c.args.number) c.node.ensures.node ∙ there)).0
    c.in-Ok-acknowledge_reply.ensures.told

pub returns-in-Err-clause-told : goal.returns-in-Err-clause-told
returns-in-Err-clause-told c = λ e there.
    not_taken c.args.client.now c.args.server.now c.deliver_reply.new.client c.args.number
    c.deliver_reply.new.text.items e c.in-Err.fault there (c.in-Err.ensures.told e there)

pub returns-in-Err-acknowledge_reply-clause-told : goal.returns-in-Err-acknowledge_reply-clause-told
returns-in-Err-acknowledge_reply-clause-told c = λ e there.
    not_brought c.args.client.now c.args.server.now c.deliver_reply.new.client c.acknowledge_reply.new.server
    c.args.number c.last_number-receipt.result c.in-Err-acknowledge_reply.fault e
    (taken_it c.args.client.now c.args.server.now c.deliver_reply.new.client c.args.number
    c.deliver_reply.new.text.items e there (c.in-Ok.ensures.told e there))
    c.in-Ok.ensures.sender
    (c.last_number-receipt.ensures ∙ ap (λ (n : NodeParts). span n.entries) c.node-2.ensures.node)
    c.in-Err-acknowledge_reply.ensures.told
