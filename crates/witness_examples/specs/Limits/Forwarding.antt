-- A client that sends two messages under one number, another that receives both, and what a witness of both
-- makes of it.
use Rattle.std.specs.Prelude.{ℕ, List, [], ◌∷◌}
use Rattle.merkle_keys.specs.Signing.{SignatureParts, signature_of}
use Rattle.authenticator.specs.Signed.{signed_digest}
use Rattle.authenticator.specs.declared.authenticator.Authenticator.{Authenticator}
use Rattle.secure_log.specs.LogEntries.Chain.{zeros, without_gaps}
use Rattle.secure_log.specs.declared.log_entries.entry.Entry.{Entry}
use Rattle.secure_log.specs.declared.log_entries.entry.Entry.TheVariants.{Recv}
use Rattle.secure_log.specs.Versioned.{VersionedParts, of_plain}
use Rattle.secure_log.specs.Log.{log_hash}
use Rattle.replay_spec.specs.Shown.{sender_shown}
use Rattle.state_spec.specs.State.{State, opening_client}
use Rattle.state_spec.specs.Steps.{having_received}
use Rattle.replay_spec.specs.Replay.{Sound}
use Rattle.witness_spec.specs.Events.{JobParts}
use Rattle.witness_spec.specs.Replies.{Noted, Forwarded}
use Rattle.witness_spec.specs.Steps.{Learn, Forward, Past}
use Rattle.witness_examples.specs.Worked.{no_signature, learned}
use Rattle.witness_examples.specs.Limits.Audits.{audited_with, its_secret, clients, sender, receipt}
use Rattle.witness_examples.specs.Limits.Audits.{state_heard}

-- the hash of the second message
abbrev pub other_sent_hash : List ℕ
other_sent_hash = (sender_shown 5 6 1 zeros (8 ∷ []) no_signature).hash

-- its sender's signature, by the second of its keys
abbrev pub other_signature : SignatureParts
other_signature = signature_of its_secret 1 1 (signed_digest 6 1 other_sent_hash)

-- what the message shows of its sender
abbrev pub other_sender : Authenticator
other_sender = sender_shown 5 6 1 zeros (8 ∷ []) other_signature

-- the log of the one that received both
abbrev pub both_receipts : List Entry
both_receipts = receipt ∷ Recv 6 1 zeros (8 ∷ []) other_signature ∷ []

-- all of it, closed
abbrev pub both_segment : VersionedParts
both_segment = of_plain (record {
  node = 5;
  first = 1;
  opening = zeros;
  entries = both_receipts;
  closing = learned 2 (log_hash (without_gaps both_receipts));
})

-- the job of it
abbrev pub both_job : JobParts
both_job = record {
  node = 5;
  number = 1;
  state = opening_client 5;
  segment = record { segment = both_segment; roster = clients };
}

-- the state after it
abbrev pub state_both : State
state_both = having_received state_heard (record { from = 6; seq = 1; hash = other_sent_hash })

-- it was audited
abbrev pub both_audited : Past
both_audited = audited_with [] both_job (Sound state_both (sender ∷ other_sender ∷ []))

-- what was found first was forwarded
abbrev pub one_forwarded : Past
one_forwarded = (Forward, Forwarded sender) ∷ both_audited

-- and the other
abbrev pub both_forwarded : Past
both_forwarded = (Forward, Forwarded other_sender) ∷ one_forwarded

-- the sender's own steps: what was forwarded first is learned
abbrev pub one_arrived : Past
one_arrived = (Learn sender, Noted) ∷ []

-- and the other
abbrev pub both_arrived : Past
both_arrived = (Learn other_sender, Noted) ∷ one_arrived
