use Rattle.std.proofs.Common.{List, ℕ, subst}
use Rattle.node_logs.specs.Nodes.{NodeParts}
use Rattle.node_logs.specs.Receiving.{Receives}
use Rattle.hosting.specs.Hosting.{IsReceivedTold}
use Rattle.hosting.proofs.OnceFinished.{received_as}
use Rattle.hosting.proofs.host.deliver.Goals as goal

pub returns : goal.returns
returns c h =
    received_as h c.args.server.now c.args.time c.args.xid c.args.text.now c.receive_incoming-received.result
    c.receive_incoming-received.new.self c.answer_received.result c.answer_received.new.out.items
    (subst (λ (b : List ℕ). Receives c.args.server.now c.args.time b c.receive_incoming-received.result
    c.receive_incoming-received.new.self) c.message.ensures c.receive_incoming-received.ensures.receives)
    (subst (λ (n : NodeParts). IsReceivedTold c.receive_incoming-received.result n c.args.xid c.answer_received.result
    c.answer_received.new.out.items) c.server.ensures.server c.answer_received.ensures)
