-- Whole audits of a client, one after the other: of entries that read the clock, and of one that shows
-- another client's signature.
use Rattle.std.specs.Prelude.{ℕ, zero, suc, ◌+◌, ◌*◌, List, [], ◌∷◌, replicate}
use Rattle.merkle_keys.specs.Signing.{SignatureParts, signature_of}
use Rattle.merkle_keys.specs.Tree.{root}
use Rattle.authenticator.specs.Signed.{signed_digest}
use Rattle.authenticator.specs.declared.authenticator.Authenticator.{Authenticator}
use Rattle.authenticator.specs.declared.member.Kind.TheVariants.{Client}
use Rattle.authenticator.specs.declared.member.LogVersion.TheVariants.{One}
use Rattle.authenticator.specs.declared.member.Member.{Member}
use Rattle.secure_log.specs.LogEntries.Chain.{zeros, hash_after, last_hash, without_gaps, logged_links, logged_link}
use Rattle.secure_log.specs.declared.log_entries.entry.Entry.{Entry}
use Rattle.secure_log.specs.declared.log_entries.entry.Entry.TheVariants.{Clock, Recv}
use Rattle.secure_log.specs.Versioned.{VersionedParts, of_plain}
use Rattle.replay_spec.specs.Shown.{sender_shown}
use Rattle.state_spec.specs.State.{State, opening_client}
use Rattle.state_spec.specs.Steps.{having_received, having_read}
use Rattle.replay_spec.specs.Replay.{Verdict, Sound}
use Rattle.replay_spec.specs.LogLaws.HonestServers.{next_logged}
use Rattle.witness_spec.specs.Events.{JobParts}
use Rattle.witness_spec.specs.Replies.{Noted, Accepted, Asked, Job, Filed, Forwarded}
use Rattle.witness_spec.specs.Steps.{Learn, Answer, Audit, Begin, File, Forward, Past}
use Rattle.witness_examples.specs.Worked.{five, no_signature, learned, one_hash, read_hash, state_read}
use Rattle.witness_examples.specs.Worked.{filed_two}

-- A whole audit after own steps: the authenticator that closes a segment is learned; the segment is asked
-- for and given; a job of it is begun, and filed with this verdict.
abbrev pub audited_with : Past → JobParts → Verdict → Past
audited_with past j verdict =
    (File (record { job = j; verdict = verdict }), Filed) ∷ (Begin, Job j) ∷ (Answer j.segment, Accepted)
    ∷ (Audit, Asked j.segment.segment.first j.segment.segment.closing.word)
    ∷ (Learn j.segment.segment.closing, Noted) ∷ past

-- ---- a second audit, of one reading after another

-- the second reading
abbrev pub second_entries : List Entry
second_entries = Clock 2 0 ∷ []

-- it alone, closed
abbrev pub second_segment : VersionedParts
second_segment = of_plain (record {
  node = 5;
  first = 2;
  opening = read_hash;
  entries = second_entries;
  closing = learned 2 (last_hash read_hash (logged_links 1 (without_gaps second_entries)));
})

-- it begins in the state where the first audit ended
abbrev pub second_job : JobParts
second_job =
    record {
      node = 5;
      number = 3;
      state = state_read;
      segment = record
          { segment = second_segment; roster = [] };
    }

-- the state after it
abbrev pub second_state : State
second_state = having_read state_read (record { seconds = 2; microseconds = 0 })

-- both audits
abbrev pub filed_second : Past
filed_second = audited_with filed_two second_job (Sound second_state [])

-- ---- many readings of the clock

-- one that shows the time that the client begins with
abbrev pub tick : Entry
tick = Clock 0 0

-- so many of them
unfoldable pub ticks : ℕ → List Entry
ticks n = replicate n tick

-- the hash at a number in their log
unfoldable pub hash_at : ℕ → List ℕ
hash_at zero = zeros
hash_at (suc n) = hash_after (hash_at n) (logged_link (suc n) (next_logged tick))

-- so many after an end, closed
abbrev pub ticked : (end size : ℕ) → VersionedParts
ticked end size = of_plain (record {
  node = 5;
  first = end + 1;
  opening = hash_at end;
  entries = ticks size;
  closing = learned (end + size) (hash_at (end + size));
})

-- the secret of a client that sends to the one that is watched
unfoldable pub its_secret : List ℕ
its_secret = replicate 32 6

-- that client
abbrev pub six : Member
six = record { node = 6; kind = Client; root = root its_secret 1; height = 1; log_version = One }

-- both
abbrev pub clients : List Member
clients = five ∷ six ∷ []

-- the job of so many readings
abbrev pub ticked_job : (number end size : ℕ) → JobParts
ticked_job number end size = record {
  node = 5;
  number = number;
  state = opening_client 5;
  segment = record { segment = ticked end size; roster = clients };
}

-- as many audits of 4,096 readings each
unfoldable pub rounds : ℕ → Past
rounds zero = []
rounds (suc k) =
    audited_with (rounds k) (ticked_job (k + 1) (4_096 * k) 4_096) (Sound (opening_client 5) [])

-- ---- a message that the client received

-- the hash that its sender signed
abbrev pub sent_hash : List ℕ
sent_hash = (sender_shown 5 6 1 zeros (7 ∷ []) no_signature).hash

-- by the first of its keys
abbrev pub its_signature : SignatureParts
its_signature = signature_of its_secret 1 0 (signed_digest 6 1 sent_hash)

-- what the message shows of its sender
abbrev pub sender : Authenticator
sender = sender_shown 5 6 1 zeros (7 ∷ []) its_signature

-- the entry of who received it
abbrev pub receipt : Entry
receipt = Recv 6 1 zeros (7 ∷ []) its_signature

-- the hash at the number after an end, where it was received
unfoldable pub heard_hash : (end : ℕ) → List ℕ
heard_hash end = hash_after (hash_at end) (logged_link (end + 1) (next_logged receipt))

-- a segment with it alone
abbrev pub heard_segment : (end : ℕ) → VersionedParts
heard_segment end = of_plain (record {
  node = 5;
  first = end + 1;
  opening = hash_at end;
  entries = receipt ∷ [];
  closing = learned (end + 1) (heard_hash end);
})

-- the job of that segment
abbrev pub heard_job : (number end : ℕ) → JobParts
heard_job number end = record {
  node = 5;
  number = number;
  state = opening_client 5;
  segment = record { segment = heard_segment end; roster = clients };
}

-- the state after it
abbrev pub state_heard : State
state_heard = having_received (opening_client 5) (record { from = 6; seq = 1; hash = sent_hash })

-- so many rounds, and an audit of a message received after them
abbrev pub heard : (rounds_before : ℕ) → Past
heard k = audited_with (rounds k) (heard_job (k + 1) (4_096 * k)) (Sound state_heard (sender ∷ []))

-- an authenticator of a number is learned, of whatever hash
abbrev pub with_learned : (number : ℕ) → Past → Past
with_learned number past = (Learn (learned number one_hash), Noted) ∷ past

-- what was found of that message was forwarded
abbrev pub forwarded_one : Past
forwarded_one = (Forward, Forwarded sender) ∷ heard 0
