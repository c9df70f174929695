use Rattle.nodes.proofs.OfSides.{answered, answered_plainly, has_received, not_answered}
use Rattle.nodes.proofs.sides.answer.Goals as goal

pub returns-clause-answered : goal.returns-clause-answered
returns-clause-answered c e text =
    answered _ _ c.args.server.now c.receive.new.server c.node.result.now c.args.time e c.in_ok-receipt.receipt
    c.show.result
    (has_received c.args.server.now c.receive.new.server c.args.time c.args.call e c.in_ok-receipt.receipt
    (c.in_ok-receipt.ensures.addressed e text) (c.in_ok-receipt.ensures.told e text))
    c.in_ok-receipt.ensures.sender c.node.ensures.node c.show.ensures.shown

pub returns-clause-served : goal.returns-clause-served
returns-clause-served c plain e text =
    answered_plainly _ _ c.args.server.now c.receive.new.server c.node.result.now c.args.time e
    c.in_ok-receipt.receipt c.show.result plain
    (has_received c.args.server.now c.receive.new.server c.args.time c.args.call e c.in_ok-receipt.receipt
    (c.in_ok-receipt.ensures.addressed e text) (c.in_ok-receipt.ensures.told e text))
    c.in_ok-receipt.ensures.sender c.node.ensures.node c.show.ensures.shown

pub returns-clause-stops : goal.returns-clause-stops
returns-clause-stops c e text =
    not_answered c.args.server.now c.receive.new.server c.node.result.now c.args.time e c.in_ok-receipt.receipt
    c.args.call c.show.result
    (has_received c.args.server.now c.receive.new.server c.args.time c.args.call e c.in_ok-receipt.receipt
    (c.in_ok-receipt.ensures.addressed e text) (c.in_ok-receipt.ensures.told e text))
    c.in_ok-receipt.ensures.sender c.node.ensures.node c.show.ensures.refused
