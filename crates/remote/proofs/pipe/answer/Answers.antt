use Rattle.std.proofs.Common.{subst}
use Rattle.commitment.specs.Senders.Sender.{IsSender}
use Rattle.node_logs.specs.Nodes.{NodeParts, sender_of}
use Rattle.remote.proofs.Piping.{gives_for}
use Rattle.remote.proofs.pipe.answer.Goals as goal

pub returns : goal.returns
returns c e text =
    gives_for c.args.server.now c.receive-received.new.self c.args.time c.args.call.now
    c.write_answer.new.reply.items e c.in-New.receipt c.in-Ok.received c.write_answer.result text c.in-New.is
    c.in-Ok.ensures
    (subst (λ (m : NodeParts). IsSender (sender_of m)) c.node.ensures.node c.is_honest.ensures.signed)
    c.write_answer.ensures
