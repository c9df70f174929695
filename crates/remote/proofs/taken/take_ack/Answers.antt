use Rattle.std.proofs.Common.{◌≡◌, List, Ok, ap, map, subst, sym, ◌∙◌}
use Rattle.std.proofs.lemmas.Bool.{false≢true}
use Rattle.std.specs.List.{Any}
use Rattle.secure_log.specs.LogEntries.Chain.{Logged}
use Rattle.secure_log.specs.declared.log_entries.entry.Entry.{Entry}
use Rattle.node_logs.specs.AckTaking.{TakesAck, ack_entry}
use Rattle.node_logs.specs.Nodes.{NodeParts}
use Rattle.node_logs.specs.declared.outcome.AckTaken.{AckTaken}
use Rattle.remote.proofs.Acknowledging.{is_another, is_there}
use Rattle.remote.proofs.taken.take_ack.Goals as goal

pub returns-then-has_ack-clause-taken : goal.returns-then-has_ack-clause-taken
returns-then-has_ack-clause-taken c number call at word =
    is_there c.args.client.now c.take_ack.new.self c.args.server number c.args.word call c.args.bytes.now
    c.in_ok-ack.ack at word c.in_ok-ack.ensures.read
    (subst (λ (t : AckTaken). TakesAck c.args.client.now c.args.bytes.now (Ok t) c.take_ack.new.self)
    c.in-Ok-Already.field-0-is c.in-Ok-Already.ensures)
    (subst (λ (es : List Entry). Any (λ (e : Entry). e ≡ ack_entry c.in_ok-ack.ack) es)
    (c.entries.ensures
    ∙ ap (map (λ (l : Logged). l.entry))
    (c.log.ensures.entries ∙ ap (λ (m : NodeParts). m.entries) c.node.ensures.node))
    (c.has_ack.ensures.0 c.if-has_ack.true))

pub returns-else-has_ack-clause-refused : goal.returns-else-has_ack-clause-refused
returns-else-has_ack-clause-refused c number call at word =
    is_another c.args.client.now c.take_ack.new.self c.args.server number c.args.word call c.args.bytes.now
    c.in_ok-ack.ack at word c.in_ok-ack.ensures.read
    (subst (λ (t : AckTaken). TakesAck c.args.client.now c.args.bytes.now (Ok t) c.take_ack.new.self)
    c.in-Ok-Already.field-0-is c.in-Ok-Already.ensures)
    (λ h.
    false≢true
    (sym c.if-has_ack.false
    ∙ c.has_ack.ensures.1
    (subst (λ (es : List Entry). Any (λ (e : Entry). e ≡ ack_entry c.in_ok-ack.ack) es)
    (sym (c.entries.ensures
    ∙ ap (map (λ (l : Logged). l.entry))
    (c.log.ensures.entries ∙ ap (λ (m : NodeParts). m.entries) c.node.ensures.node))) h)))
