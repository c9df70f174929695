use Rattle.std.proofs.Common.{List, ℕ, subst, sym, ◌∙◌}
use Rattle.nodes.specs.Sides.{IsSentAs}
use Rattle.nodes.proofs.UnderLock.{asked_where_heard, not_answered_under, not_asked_where_heard}
use Rattle.nodes.proofs.locked.ask.Goals as goal

pub returns-in-Err-clause-stops : goal.returns-in-Err-clause-stops
returns-in-Err-clause-stops g c =
    let out = subst (λ (t : List ℕ). IsSentAs c.args.client.now c.args.to c.args.bytes.now t c.send_text.new.client)
    (sym (c.envelope-incoming.ensures ∙ c.deref.ensures.value)) c.in_ok-send_text.ensures.sent in
    not_answered_under c.args.client.now c.deref_mut.result.now c.args.to c.args.time c.args.bytes.now
    c.envelope-incoming.result c.in-Err.fault c.send_text.new.client c.answer-answered.new.self out c.in-Err.ensures.straight
    c.in-Err.ensures.stays (c.in-Err.ensures.stops out.envelope out.written)

pub returns-in-Ok-clause-asked : goal.returns-in-Ok-clause-asked
returns-in-Ok-clause-asked g c =
    let out = subst (λ (t : List ℕ). IsSentAs c.args.client.now c.args.to c.args.bytes.now t c.send_text.new.client)
    (sym (c.envelope-incoming.ensures ∙ c.deref.ensures.value)) c.in_ok-send_text.ensures.sent in
    asked_where_heard _ c.hear.result c.args.client.now c.deref_mut.result.now c.args.to c.args.time
    c.args.bytes.now c.envelope-incoming.result c.in-Ok.shown.ack c.in-Ok.shown.reply
    c.hear.new.texts.reply.items c.send_text.new.client c.answer-answered.new.self c.hear.new.client out
    c.in-Ok.ensures.straight c.in-Ok.ensures.stays (c.in-Ok.ensures.answered out.envelope out.written)
    (c.in-Ok.ensures.served out.envelope out.written) c.hear.ensures.written c.hear.ensures.taken

pub returns-in-Ok-clause-stops : goal.returns-in-Ok-clause-stops
returns-in-Ok-clause-stops g c =
    let out = subst (λ (t : List ℕ). IsSentAs c.args.client.now c.args.to c.args.bytes.now t c.send_text.new.client)
    (sym (c.envelope-incoming.ensures ∙ c.deref.ensures.value)) c.in_ok-send_text.ensures.sent in
    not_asked_where_heard c.hear.result c.args.client.now c.deref_mut.result.now c.args.to c.args.time
    c.args.bytes.now c.envelope-incoming.result c.in-Ok.shown.ack c.in-Ok.shown.reply c.send_text.new.client
    c.answer-answered.new.self c.hear.new.client out c.in-Ok.ensures.straight c.in-Ok.ensures.stays
    (c.in-Ok.ensures.answered out.envelope out.written) c.hear.ensures.stops
