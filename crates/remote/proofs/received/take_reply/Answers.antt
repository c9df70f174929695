use Rattle.std.proofs.Common.{Ok, Err, subst, sym, ◌∙◌}
use Rattle.std.proofs.lemmas.Bool.{false≢true}
use Rattle.commitment.specs.Senders.Sender.{IsSender}
use Rattle.node_logs.specs.Nodes.{NodeParts, sender_of}
use Rattle.remote.proofs.Receiving.{is_anothers, is_replied, took_new}
use Rattle.remote.proofs.received.take_reply.Goals as goal

pub returns-then-not-is_reply-clause-refused : goal.returns-then-not-is_reply-clause-refused
returns-then-not-is_reply-clause-refused c call x =
    is_anothers c.args.client.now c.take_reply-taken.new.self c.args.server c.in-New.number call
    c.args.ack.now
    c.args.bytes.now c.in_ok-envelope.envelope c.in_ok-envelope.ensures.read
    (took_new c.args.client.now c.take_reply-taken.new.self c.args.bytes.now c.in-New.number c.in-Ok.received
    c.in-New.is c.in-Ok.ensures)
    (λ h. false≢true (sym c.if-not-is_reply.true ∙ (c.is_reply-is_reply.ensures call x).1 h))

pub returns-in-Ok-write_receipt-clause-taken : goal.returns-in-Ok-write_receipt-clause-taken
returns-in-Ok-write_receipt-clause-taken c call x =
    (is_replied c.args.client.now c.take_reply-taken.new.self c.args.server c.in-New.number call
    c.args.ack.now
    c.args.bytes.now c.in_ok-body.body.items c.write_receipt.new.text.items c.in_ok-envelope.envelope
    (Ok c.in-Ok-write_receipt.field-0) c.in_ok-envelope.ensures.read
    (took_new c.args.client.now c.take_reply-taken.new.self c.args.bytes.now c.in-New.number c.in-Ok.received
    c.in-New.is c.in-Ok.ensures)
    ((c.is_reply-is_reply.ensures call x).0 c.if-not-is_reply.false)
    (c.in_ok-body.ensures.copy ∙ c.bytes.ensures.bytes)
    (subst (λ (m : NodeParts). IsSender (sender_of m)) c.node.ensures.node c.is_honest.ensures.signed)
    c.in-Ok-write_receipt.ensures).0

pub returns-in-New-clause-refused : goal.returns-in-New-clause-refused
returns-in-New-clause-refused c call x =
    (is_replied c.args.client.now c.take_reply-taken.new.self c.args.server c.in-New.number call
    c.args.ack.now
    c.args.bytes.now c.in_ok-body.body.items c.write_receipt.new.text.items c.in_ok-envelope.envelope
    (Err c.in-Err-write_receipt.fault) c.in_ok-envelope.ensures.read
    (took_new c.args.client.now c.take_reply-taken.new.self c.args.bytes.now c.in-New.number c.in-Ok.received
    c.in-New.is c.in-Ok.ensures)
    ((c.is_reply-is_reply.ensures call x).0 c.if-not-is_reply.false)
    (c.in_ok-body.ensures.copy ∙ c.bytes.ensures.bytes)
    (subst (λ (m : NodeParts). IsSender (sender_of m)) c.node.ensures.node c.is_honest.ensures.signed)
    c.in-Err-write_receipt.ensures).1
