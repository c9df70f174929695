-- Values of worked histories. Signatures and hashes are short stand-ins: what a witness makes of a node's own
-- steps looks at neither.
use Rattle.std.specs.Prelude.{ℕ, zero, suc, List, [], ◌∷◌, Some}
use Rattle.std.specs.Prelude.{◌+◌}
use Rattle.merkle_keys.specs.Signing.{SignatureParts}
use Rattle.authenticator.specs.declared.authenticator.Authenticator.{Authenticator}
use Rattle.authenticator.specs.declared.member.Kind.TheVariants.{Client}
use Rattle.authenticator.specs.declared.member.LogVersion.TheVariants.{One}
use Rattle.authenticator.specs.declared.member.Member.{Member}
use Rattle.secure_log.specs.LogEntries.Chain.{zeros, without_gaps}
use Rattle.secure_log.specs.declared.log_entries.entry.Entry.{Entry}
use Rattle.secure_log.specs.declared.log_entries.entry.Entry.TheVariants.{Clock}
use Rattle.secure_log.specs.Versioned.{VersionedParts, ClosedParts}
use Rattle.secure_log.specs.Versioned.{of_plain}
use Rattle.secure_log.specs.Log.{log_hash}
use Rattle.envelopes.specs.declared.envelope.Envelope.{Envelope}
use Rattle.state_spec.specs.State.{State, opening_client}
use Rattle.state_spec.specs.Steps.{having_read}
use Rattle.replay_spec.specs.Stepping.{BadForm}
use Rattle.replay_spec.specs.Replay.{Sound, Fault}
use Rattle.witness_spec.specs.evidence_spec.Showing.{authenticator_showing}
use Rattle.witness_spec.specs.evidence_spec.Evidence.{Fork, Replay, EvidenceParts}
use Rattle.witness_spec.specs.Refusals.{UnknownNode, Garbage, NothingToAudit}
use Rattle.witness_spec.specs.Events.{PublicKey, JobParts, DoneParts, ItsIndication}
use Rattle.witness_spec.specs.Events as events
use Rattle.witness_spec.specs.Replies.{Noted, Opened, Accepted, Asked, Job, Filed, Returned}
use Rattle.witness_spec.specs.Replies.{Told, Refused, Trusted}
use Rattle.witness_spec.specs.Watched.{Watched}
use Rattle.witness_spec.specs.Histories.{History}
use Rattle.witness_spec.specs.Steps.{Learn, SendChallenge, Answer, Audit, Begin, File, PutBack, Past}
use Rattle.witness_examples.specs.Reaching.{watched_in}

-- a client
abbrev pub five : Member
five = record { node = 5; kind = Client; root = 5 ∷ []; height = 1; log_version = One }

-- its node, under a roster of nobody
abbrev pub node_five : Watched
node_five = watched_in [] five

-- its key
abbrev pub its_key : PublicKey
its_key = record { root = 5 ∷ []; height = 1 }

-- another key
abbrev pub other_key : PublicKey
other_key = record { root = 6 ∷ []; height = 1 }

-- a stand-in for a signature
abbrev pub no_signature : SignatureParts
no_signature = record { leaf = 0; shown = []; other = []; path = [] }

-- its root, under another height
abbrev pub higher_key : PublicKey
higher_key = record { root = 5 ∷ []; height = 2 }

-- another client, with that other key
abbrev pub second : Member
second = record { node = 6; kind = Client; root = 6 ∷ []; height = 1; log_version = One }

-- its authenticator of a hash at a number
abbrev pub learned : (number : ℕ) (hash : List ℕ) → Authenticator
learned number hash = record { node = 5; word = number; hash = hash; signature = no_signature }

-- a message of another client to it
abbrev pub sent : (seq : ℕ) → Envelope
sent seq = record { from = 6; to = 5; seq = seq; prev = 6 ∷ []; body = 7 ∷ []; signature = no_signature }

-- ---- two hashes at number 3

-- one
abbrev pub one_hash : List ℕ
one_hash = 1 ∷ []

-- the other
abbrev pub other_hash : List ℕ
other_hash = 2 ∷ []

-- one was learned
abbrev pub learned_one : Past
learned_one = (Learn (learned 3 one_hash), Noted) ∷ []

-- then the other
abbrev pub learned_two : Past
learned_two = (Learn (learned 3 other_hash), Noted) ∷ learned_one

-- the evidence of both
abbrev pub fork_at_three : EvidenceParts
fork_at_three = record {
  node = 5;
  charge = Fork (record {
    log_version = One;
    at = 3;
    a = authenticator_showing One (learned 3 one_hash);
    b = Some (authenticator_showing One (learned 3 other_hash));
  });
}

-- ---- an audit of one reading of the clock

-- the reading
abbrev pub readings : List Entry
readings = Clock 1 0 ∷ []

-- the hash there
abbrev pub read_hash : List ℕ
read_hash = log_hash (without_gaps readings)

-- it alone, closed
abbrev pub segment : VersionedParts
segment = of_plain (record {
  node = 5;
  first = 1;
  opening = zeros;
  entries = readings;
  closing = learned 1 read_hash;
})

-- with a roster, at which own steps don't look
abbrev pub closed : ClosedParts
closed = record { segment = segment; roster = [] }

-- its last authenticator was learned
abbrev pub known : Past
known = (Learn (learned 1 read_hash), Noted) ∷ []

-- the audit asked
abbrev pub wanted : Past
wanted = (Audit, Asked 1 1) ∷ known

-- the segment was given
abbrev pub given : Past
given = (Answer closed, Accepted) ∷ wanted

-- the jobs of that segment, by their numbers
abbrev pub job : (number : ℕ) → JobParts
job number = record { node = 5; number = number; state = opening_client 5; segment = closed }

-- the state after it
abbrev pub state_read : State
state_read = having_read (opening_client 5) (record { seconds = 1; microseconds = 0 })

-- what a replay of them gives
abbrev pub done : (number : ℕ) → DoneParts
done number = record { job = job number; verdict = Sound state_read [] }

-- the first job is out
abbrev pub out_one : Past
out_one = (Begin, Job (job 1)) ∷ given

-- it was put back
abbrev pub put_back : Past
put_back = (PutBack (job 1), Returned) ∷ out_one

-- the second is out
abbrev pub out_two : Past
out_two = (Begin, Job (job 2)) ∷ put_back

-- it was filed
abbrev pub filed_two : Past
filed_two = (File (done 2), Filed) ∷ out_two

-- a done value of the first job, but of another state
abbrev pub other_state : DoneParts
other_state = record { job = record (job 1) { state = state_read }; verdict = Sound state_read [] }

-- and one of another roster, where the segment is the same
abbrev pub other_segment : DoneParts
other_segment = record {
  job = record (job 1) { segment = record { segment = segment; roster = second ∷ [] } };
  verdict = Sound state_read [];
}

-- up to 2 was asked for
abbrev pub two_wanted : Past
two_wanted = (Audit, Asked 1 2) ∷ (Learn (learned 2 one_hash), Noted) ∷ []

-- a second audit was asked for
abbrev pub second_wanted : Past
second_wanted = (Audit, Asked 2 2) ∷ (Learn (learned 2 one_hash), Noted) ∷ filed_two

-- after such steps the node is exposed by two hashes at number 3
abbrev pub then_exposed : Past → Past
then_exposed past = (Learn (learned 3 other_hash), Noted) ∷ (Learn (learned 3 one_hash), Noted) ∷ past

-- while a segment is asked for
abbrev pub exposed_wanted : Past
exposed_wanted = then_exposed wanted

-- while it is given
abbrev pub exposed_given : Past
exposed_given = then_exposed given

-- while a job of it is out
abbrev pub exposed_out : Past
exposed_out = then_exposed out_one

-- ---- the same of a reading that is no time

-- the reading
abbrev pub no_readings : List Entry
no_readings = Clock 0 1_000_000 ∷ []

-- the hash there
abbrev pub no_hash : List ℕ
no_hash = log_hash (without_gaps no_readings)

-- it alone, closed
abbrev pub no_segment : VersionedParts
no_segment = of_plain (record {
  node = 5;
  first = 1;
  opening = zeros;
  entries = no_readings;
  closing = learned 1 no_hash;
})

-- with a roster
abbrev pub no_closed : ClosedParts
no_closed = record { segment = no_segment; roster = [] }

-- the job of it
abbrev pub no_job : JobParts
no_job = record { node = 5; number = 1; state = opening_client 5; segment = no_closed }

-- what a replay gives
abbrev pub no_done : DoneParts
no_done = record { job = no_job; verdict = Fault BadForm 1 }

-- it was learned, asked for, given and begun
abbrev pub no_out : Past
no_out =
    (Begin, Job no_job) ∷ (Answer no_closed, Accepted) ∷ (Audit, Asked 1 1)
    ∷ (Learn (learned 1 no_hash), Noted) ∷ []

-- and filed
abbrev pub no_filed : Past
no_filed = (File no_done, Filed) ∷ no_out

-- the evidence
abbrev pub fault_at_one : EvidenceParts
fault_at_one = record { node = 5; charge = Replay no_segment }

-- ---- many

-- so many messages that it is challenged with
abbrev pub challenged : ℕ → Past
challenged zero = []
challenged (suc n) = (SendChallenge (sent (n + 1)), Opened) ∷ challenged n

-- so many authenticators of it were learned, of the numbers from 1 on
abbrev pub learned_to : ℕ → Past
learned_to zero = []
learned_to (suc n) = (Learn (learned (suc n) one_hash), Noted) ∷ learned_to n

-- ---- a history

-- no bytes; an audit of a stranger, and of the client, of which nothing was learned; and what is said of it
abbrev pub some_events : History
some_events =
    (events.Ask 5 ItsIndication, Told Trusted) ∷ (events.Audit 5, Refused NothingToAudit)
    ∷ (events.Audit 6, Refused UnknownNode) ∷ (events.Deliver [], Refused Garbage) ∷ []
