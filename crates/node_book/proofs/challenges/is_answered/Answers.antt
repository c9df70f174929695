use Rattle.std.proofs.Common.{◌∙◌, ap, ap₂, map, sym}
use Rattle.std.specs.List.{list_any}
use Rattle.secure_log.specs.LogEntries.Chain.{Logged}
use Rattle.witness_spec.specs.Standing.{is_answered, is_recv_of}
use Rattle.envelopes.specs.Envelope.{envelope_message}
use Rattle.node_book.specs.Replies.{challenge_in}
use Rattle.node_book.proofs.Mapped.{list_any_map}
use Rattle.node_book.proofs.challenges.is_answered.Goals as goal

-- a RECV among the entries
pub returns-in-Send : goal.returns-in-Send
returns-in-Send c =
    let s = c.args.segment.now in
    c.is_received.ensures
    ∙ ap₂ (λ n es. list_any (is_recv_of n c.message.result) es) c.node.ensures c.entries.ensures.entries
    ∙ ap (λ m. list_any (is_recv_of s.node m) (map (λ (l : Logged). l.entry) s.entries)) c.message.ensures
    ∙ list_any_map (is_recv_of s.node (envelope_message c.in-Send.envelope)) (λ (l : Logged). l.entry) s.entries
    ∙ ap (λ x. is_answered s (challenge_in x)) (sym c.in-Send.is)
