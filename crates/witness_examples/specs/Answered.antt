-- Own steps of a client that is challenged with two messages, and whose log has received the first.
use Rattle.std.specs.Prelude.{ℕ, List, [], ◌∷◌}
use Rattle.sha2.specs.Sha256.{sha256}
use Rattle.secure_log.specs.LogEntries.Chain.{zeros, without_gaps}
use Rattle.secure_log.specs.LogEntries.Messages.{message_hash}
use Rattle.secure_log.specs.declared.log_entries.entry.Entry.{Entry}
use Rattle.secure_log.specs.declared.log_entries.entry.Entry.TheVariants.{Recv}
use Rattle.secure_log.specs.Versioned.{VersionedParts, ClosedParts, of_plain}
use Rattle.secure_log.specs.Log.{log_hash}
use Rattle.witness_spec.specs.Replies.{Noted, Opened, Accepted, Asked}
use Rattle.witness_spec.specs.Steps.{Learn, SendChallenge, Answer, Audit, Past}
use Rattle.witness_examples.specs.Worked.{no_signature, learned, sent}

-- its log: the first message
abbrev pub received : List Entry
received = Recv 6 1 (6 ∷ []) (7 ∷ []) no_signature ∷ []

-- the hash that the sender's log has there
abbrev pub sent_hash : List ℕ
sent_hash = message_hash 5 1 (6 ∷ []) (sha256 (7 ∷ []))

-- the hash of its own log
abbrev pub received_hash : List ℕ
received_hash = log_hash (without_gaps received)

-- it alone, closed
abbrev pub received_segment : VersionedParts
received_segment = of_plain (record {
  node = 5;
  first = 1;
  opening = zeros;
  entries = received;
  closing = learned 1 received_hash;
})

-- with a roster, at which own steps don't look
abbrev pub received_closed : ClosedParts
received_closed = record { segment = received_segment; roster = [] }

-- it is challenged with both messages, and its log is asked for
abbrev pub both_wanted : Past
both_wanted =
    (Audit, Asked 1 1) ∷ (SendChallenge (sent 2), Opened) ∷ (SendChallenge (sent 1), Opened)
    ∷ (Learn (learned 1 received_hash), Noted) ∷ []

-- and it is given
abbrev pub one_answered : Past
one_answered = (Answer received_closed, Accepted) ∷ both_wanted
