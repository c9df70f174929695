use Rattle.std.proofs.Common.{subst, sym, ◌∙◌}
use Rattle.nodes.specs.Sides.{IsEnvelopeText}
use Rattle.nodes.proofs.UnderLock.{handed, returned_or_stops}
use Rattle.nodes.proofs.locked.bring_back.Goals as goal

pub returns-in-Ok-clause-returned : goal.returns-in-Ok-clause-returned
returns-in-Ok-clause-returned g c e text =
    (returned_or_stops c.args.client.now e c.args.texts.now.reply.items c.receive_reply.new.ack.items
    c.receive_reply.new.client c.deref_mut.result.now c.take_back.new.server c.take_back.result
    (c.in-Ok.ensures.received e (subst (IsEnvelopeText e) (sym c.deref.ensures.value) text))
    c.take_back.ensures.straight c.take_back.ensures.stays
    (handed c.ack-incoming.result c.receive_reply.new.ack.items (c.ack-incoming.ensures ∙ c.deref-in-Ok.ensures.value)
    c.take_back.ensures.told)).0

pub returns-in-Ok-clause-stops : goal.returns-in-Ok-clause-stops
returns-in-Ok-clause-stops g c e text =
    (returned_or_stops c.args.client.now e c.args.texts.now.reply.items c.receive_reply.new.ack.items
    c.receive_reply.new.client c.deref_mut.result.now c.take_back.new.server c.take_back.result
    (c.in-Ok.ensures.received e (subst (IsEnvelopeText e) (sym c.deref.ensures.value) text))
    c.take_back.ensures.straight c.take_back.ensures.stays
    (handed c.ack-incoming.result c.receive_reply.new.ack.items (c.ack-incoming.ensures ∙ c.deref-in-Ok.ensures.value)
    c.take_back.ensures.told)).1
