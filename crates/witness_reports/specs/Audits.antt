-- What a witness's journal shows of its audits. Each place of a journal is an event with its reply.
use Rattle.std.specs.Prelude.{ℕ, Bool, true, false, ◌==◌, ◌&&◌, List, [], ◌∷◌, nat_eq}
use Rattle.std.specs.List.{list_any}
use Rattle.std.specs.Cmp.Lexicographic.{pointwise}
use Rattle.authenticator.specs.declared.authenticator.Authenticator.{Authenticator}
use Rattle.node_book.specs.evidence_spec.replay_spec.Replay as replay
use Rattle.node_book.specs.witness_spec.Refusals as refusals
use Rattle.node_book.specs.witness_spec.Events.{Event}
use Rattle.node_book.specs.witness_spec.Events as events
use Rattle.node_book.specs.witness_spec.Pairs.{last_of}
use Rattle.node_book.specs.witness_spec.Replies.{Reply}
use Rattle.node_book.specs.witness_spec.Replies as replies

-- ---- how far a node is audited

-- the replay found no fault
abbrev pub is_sound : replay.Verdict → Bool
is_sound (replay.Sound state found) = true
is_sound (replay.Fault fault number) = false

-- a segment of the node that ends at this number is filed, and is sound
abbrev pub is_filed_to : (node last : ℕ) → Event → Reply → Bool
is_filed_to node last (events.File d) replies.Filed =
    (d.job.node == node) && (is_sound d.verdict && (last_of d.job.segment.segment == last))
is_filed_to node last _ _ = false

-- the refusal says why a node can't be audited further, though it signed more: the greatest number that was
-- learned is too far, the book or the outbox is full, or another audit isn't filed yet
abbrev pub ends_audits : refusals.Refusal → Bool
ends_audits refusals.OutboxFull = true
ends_audits refusals.TooFar = true
ends_audits refusals.Busy = true
ends_audits refusals.BookFull = true
ends_audits _ = false

-- an audit of the node is refused so
abbrev pub is_refused_audit : (node : ℕ) → Event → Reply → Bool
is_refused_audit node (events.Audit audited) (replies.Refused refusal) = (audited == node) && ends_audits refusal
is_refused_audit node _ _ = false

-- some place has a sound segment of the node that ends at this number
abbrev pub was_filed_to : (node last : ℕ) → List (Event × Reply) → Bool
was_filed_to node last places = list_any (λ p. is_filed_to node last p.0 p.1) places

-- some place has a refused audit of the node
abbrev pub was_refused : (node : ℕ) → List (Event × Reply) → Bool
was_refused node places = list_any (λ p. is_refused_audit node p.0 p.1) places

-- ---- what segments showed of other nodes

-- an authenticator of the same node, word and hash is learned
abbrev pub learns : Authenticator → Event → Bool
learns a (events.Learn learned key) =
    (learned.node == a.node) && ((learned.word == a.word) && pointwise nat_eq learned.hash a.hash)
learns a _ = false

-- nothing is left to be forwarded of what the node's segments showed
abbrev pub is_emptied : (node : ℕ) → Event → Reply → Bool
is_emptied node (events.Forward forwarded) replies.Empty = forwarded == node
is_emptied node _ _ = false

-- What a place asks of those after it: an authenticator that was taken to be forwarded is learned, and what a
-- segment that was filed showed is forwarded to the last.
abbrev pub is_followed : Event → Reply → (later : List (Event × Reply)) → Bool
is_followed (events.Forward node) (replies.Forwarded a) later = list_any (λ p. learns a p.0) later
is_followed (events.File d) replies.Filed later = list_any (λ p. is_emptied d.job.node p.0 p.1) later
is_followed _ _ later = true

-- each place has what it asks of those after it
abbrev pub are_forwarded : List (Event × Reply) → Bool
are_forwarded [] = true
are_forwarded (p ∷ later) = is_followed p.0 p.1 later && are_forwarded later
