use Rattle.std.proofs.Common.{Ok, Err, subst}
use Rattle.commitment.specs.Senders.Sender.{IsSender}
use Rattle.node_logs.specs.Nodes.{NodeParts, sender_of}
use Rattle.remote.proofs.Sending.{begun_or_stops}
use Rattle.remote.proofs.calls.begin.Goals as goal

pub returns-in-Ok-write_call-clause-begun : goal.returns-in-Ok-write_call-clause-begun
returns-in-Ok-write_call-clause-begun c =
    (begun_or_stops c.args.client.now c.send-sent.new.client c.args.server c.args.bytes.now c.in-Ok.number
    c.write_call.new.text.items (Ok c.in-Ok-write_call.field-0) c.in-Ok.ensures.begins
    (subst (λ (m : NodeParts). IsSender (sender_of m)) c.node.ensures.node c.is_honest.ensures.signed)
    c.in-Ok-write_call.ensures).0

pub returns-in-Err-write_call-clause-stops : goal.returns-in-Err-write_call-clause-stops
returns-in-Err-write_call-clause-stops c =
    (begun_or_stops c.args.client.now c.send-sent.new.client c.args.server c.args.bytes.now c.in-Ok.number
    c.write_call.new.text.items (Err c.in-Err-write_call.fault) c.in-Ok.ensures.begins
    (subst (λ (m : NodeParts). IsSender (sender_of m)) c.node.ensures.node c.is_honest.ensures.signed)
    c.in-Err-write_call.ensures).1
