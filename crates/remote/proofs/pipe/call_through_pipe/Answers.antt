use Rattle.std.proofs.Common.{List, Option, ℕ, ap, subst, sym, ◌∙◌}
use Rattle.std.specs.Option.{option_map}
use Rattle.nodes.specs.Sides.{IsEnvelopeText}
use Rattle.remote.specs.Answers.{Accepts}
use Rattle.remote.specs.Pipes.{reply_in}
use Rattle.remote.proofs.Piping.{is_served, one_round}
use Rattle.remote.proofs.pipe.call_through_pipe.Goals as goal

pub returns-in-Ok-accept-clause-exchanged : goal.returns-in-Ok-accept-clause-exchanged
returns-in-Ok-accept-clause-exchanged c =
    one_round c.args.client.now c.begin.new.self c.accept.new.self c.args.bytes.now c.in-Ok.pending.number
    c.begin.new.text.items c.deref-3.result.now c.accept.new.receipt.items
    (option_map (λ b. b.now) c.reply_in-came.result) (option_map (λ v. v.items) c.in-Ok-accept.reply)
    c.in-Ok.ensures.begun c.in-Ok-accept.ensures.accepted

pub returns-in-Ok-accept-clause-served : goal.returns-in-Ok-accept-clause-served
returns-in-Ok-accept-clause-served c plain =
    is_served c.args.server.now c.answer.new.server c.args.time c.args.client.now c.begin.new.self
    c.accept.new.self c.args.bytes.now c.in-Ok.pending.number c.begin.new.text.items c.deref-3.result.now
    c.answer.new.reply.items c.accept.new.receipt.items c.in-Ok-answer.carried
    (option_map (λ v. v.items) c.in-Ok-accept.reply) plain c.in-Ok.ensures.begun
    (c.in-Ok-answer.ensures c.in-Ok.ensures.begun.call
    (subst (λ (b : List ℕ). IsEnvelopeText c.in-Ok.ensures.begun.call b) (sym c.deref.ensures.value)
    c.in-Ok.ensures.begun.written))
    (subst (λ (o : Option (List ℕ)). Accepts c.begin.new.self c.in-Ok.pending.number c.deref-3.result.now o
    (option_map (λ v. v.items) c.in-Ok-accept.reply) c.accept.new.receipt.items c.accept.new.self)
    (c.reply_in-came.ensures ∙ ap (reply_in c.in-Ok-answer.carried) c.deref-2.ensures.value)
    c.in-Ok-accept.ensures.accepted)
