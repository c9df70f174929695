use Rattle.nodes.proofs.OfSides.{sent_or_stops}
use Rattle.nodes.proofs.sides.send_text.Goals as goal

pub returns-clause-sent : goal.returns-clause-sent
returns-clause-sent c =
    (sent_or_stops c.args.client.now c.args.to c.args.bytes.now c.send.new.client c.node.result.now
    c.in_ok-number.number c.write_envelope.new.text.items c.write_envelope.result c.in_ok-number.ensures.sends
    c.in_ok-number.ensures.sender c.node.ensures.node c.write_envelope.ensures.written).0

pub returns-clause-stops : goal.returns-clause-stops
returns-clause-stops c =
    (sent_or_stops c.args.client.now c.args.to c.args.bytes.now c.send.new.client c.node.result.now
    c.in_ok-number.number c.write_envelope.new.text.items c.write_envelope.result c.in_ok-number.ensures.sends
    c.in_ok-number.ensures.sender c.node.ensures.node c.write_envelope.ensures.written).1
