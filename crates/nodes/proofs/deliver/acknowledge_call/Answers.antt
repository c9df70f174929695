use Rattle.gateway.specs.declared.links.fault.LinkFault.TheVariants.{Failed}
use Rattle.nodes.proofs.OfExchanges.Reached.{taken_by}
use Rattle.nodes.specs.Delivery.{fault_of}
use Rattle.nodes.proofs.Delivered.{awaited}
use Rattle.nodes.proofs.Handed.{ack_handed}
use Rattle.nodes.proofs.deliver.acknowledge_call.Goals as goal

-- the acknowledgement that the server shows is the one that the client awaits
pub returns-clause-takes : goal.returns-clause-takes
returns-clause-takes c a h =
    awaited c.args.client.now c.take_ack.new.self a c.ack_taken.result
    (taken_by fault_of Failed c.args.server.now c.node.result.now c.args.client.now c.take_ack.new.self _ c.args.number a _ _
    c.take_ack.result c.ack_taken.result c.node.ensures.node c.in_ok-write_ack.ensures.sender
    c.in_ok-write_ack.ensures.written c.deref.ensures.value c.take_ack.ensures c.ack_taken.ensures h)

pub returns-clause-told : goal.returns-clause-told
returns-clause-told c a h =
    ack_handed c.args.server.now c.node.result.now c.args.client.now c.take_ack.new.self c.args.number a _ _ c.take_ack.result
    c.ack_taken.result c.node.ensures.node c.in_ok-write_ack.ensures.written c.deref.ensures.value c.take_ack.ensures
    c.ack_taken.ensures h
