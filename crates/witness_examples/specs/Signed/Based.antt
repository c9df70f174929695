-- A history of values that are really signed, of a witness that begins at a base: a client, whose log is a
-- reading of the clock, a CHECK of the state after it, and a second reading. The base is at the CHECK.
use Rattle.std.specs.Prelude.{ℕ, List, [], ◌∷◌, Some, None}
use Rattle.authenticator.specs.declared.authenticator.Authenticator.{Authenticator}
use Rattle.authenticator.specs.declared.member.LogVersion.TheVariants.{One}
use Rattle.replay_spec.specs.HonestLogs.{IsHonestLog}
use Rattle.replay_spec.specs.Opening.{opening_of}
use Rattle.replay_spec.specs.Replay.{Sound, Fault}
use Rattle.replay_spec.specs.Stepping.{ClockBack}
use Rattle.secure_log.specs.LogEntries.Chain.{Logged, hash_after, logged_link, zeros}
use Rattle.secure_log.specs.declared.log_entries.entry.Entry.TheVariants.{Clock, Check}
use Rattle.secure_log.specs.Versioned.{VersionedParts, ClosedParts}
use Rattle.state_spec.specs.State.{State}
use Rattle.state_spec.specs.StateText.{state_digest}
use Rattle.state_spec.specs.Steps.{having_read}
use Rattle.witness_spec.specs.evidence_spec.Base.{BaseParts}
use Rattle.witness_spec.specs.evidence_spec.Evidence.{Based, EvidenceParts, Fork}
use Rattle.witness_spec.specs.evidence_spec.Showing.{ShowingParts, authenticator_showing, shown_logged}
use Rattle.witness_spec.specs.Events.{JobParts, DoneParts, ItsIndication}
use Rattle.witness_spec.specs.Events as events
use Rattle.witness_spec.specs.Replies.{Noted, Accepted, Asked, Job, Filed, Told, Trusted}
use Rattle.witness_spec.specs.Starting.{KnownBase, Beginning}
use Rattle.witness_spec.specs.Watched.{Watched, watched}
use Rattle.witness_spec.specs.Pairs.{first_pair}
use Rattle.witness_spec.specs.Steps.{Learn, Answer, Audit, Begin, File, Ask, Past}
use Rattle.witness_spec.specs.Standing.{NoAudit}
use Rattle.witness_spec.specs.Histories.{BookParts, History, own_of}
use Rattle.witness_spec.specs.Premises.{NoCollisionWith}
use Rattle.witness_examples.specs.Signed.Audited.{alone, client, client_key, signed, state_read}
use Rattle.witness_examples.specs.Signed.Shown.{ones}

-- ---- its log

-- the client's state after its second reading
abbrev pub state_later : State
state_later = having_read state_read (record { seconds = 3; microseconds = 0 })

-- the entries: the first reading
abbrev pub first_reading : Logged
first_reading = record { skipped = 0; entry = Clock 1 0 }

-- the CHECK of the state after it
abbrev pub its_check : Logged
its_check = record { skipped = 0; entry = Check (state_digest state_read) }

-- the second reading
abbrev pub second_reading : Logged
second_reading = record { skipped = 0; entry = Clock 3 0 }

-- all of them
abbrev pub checked_log : List Logged
checked_log = first_reading ∷ its_check ∷ second_reading ∷ []

-- the hash at the first reading
abbrev pub first_hash : List ℕ
first_hash = hash_after zeros (logged_link 1 first_reading)

-- that at the CHECK
abbrev pub check_hash : List ℕ
check_hash = hash_after first_hash (logged_link 2 its_check)

-- that at the second reading
abbrev pub later_hash : List ℕ
later_hash = hash_after check_hash (logged_link 3 second_reading)

-- its authenticator of the end
abbrev pub later_end : (secret : List ℕ) → Authenticator
later_end secret = signed secret 0 3 later_hash

-- ---- the base

-- the part of the log from the CHECK on, by its links
abbrev pub shown_part : (secret : List ℕ) → ShowingParts
shown_part secret = record {
  node = 5;
  first = 2;
  opening = first_hash;
  links = shown_logged its_check ∷ shown_logged second_reading ∷ [];
  closing = later_end secret;
}

-- the text of the state at the CHECK: version 1, node 5, a client; one second; no messages
abbrev pub state_bytes : List ℕ
state_bytes =
    0 ∷ 0 ∷ 0 ∷ 1 ∷ 0 ∷ 0 ∷ 0 ∷ 5 ∷ 0 ∷ 0 ∷ 0 ∷ 2 ∷ 0 ∷ 0 ∷ 0 ∷ 1 ∷
    0 ∷ 0 ∷ 0 ∷ 0 ∷ 0 ∷ 0 ∷ 0 ∷ 0 ∷ 0 ∷ 0 ∷ 0 ∷ 0 ∷ 0 ∷ 0 ∷ 0 ∷ 0 ∷ []

-- the base at the CHECK
abbrev pub base_parts : (secret : List ℕ) → BaseParts
base_parts secret = record { log_version = One; showing = shown_part secret; at = 2; state = state_bytes }

-- the same with its state
abbrev pub known_base : (secret : List ℕ) → KnownBase
known_base secret = record { parts = base_parts secret; state = state_read }

-- what the witness begins with
abbrev pub from_base : (secret : List ℕ) → Beginning
from_base secret = record { roster = alone secret; bases = known_base secret ∷ [] }

-- the client, watched from there
abbrev pub watched_later : (secret : List ℕ) → Watched
watched_later secret = watched (from_base secret) (client secret)

-- ---- the rest of its log is audited

-- the second reading, closed by the authenticator of the end
abbrev pub later_segment : (secret : List ℕ) → VersionedParts
later_segment secret = record {
  log_version = One;
  node = 5;
  first = 3;
  opening = check_hash;
  entries = second_reading ∷ [];
  closing = later_end secret;
}

-- the same under the client's roster
abbrev pub later_closed : (secret : List ℕ) → ClosedParts
later_closed secret = record { segment = later_segment secret; roster = alone secret }

-- the job of replaying it, from the base's state
abbrev pub later_job : (secret : List ℕ) → JobParts
later_job secret = record { node = 5; number = 1; state = state_read; segment = later_closed secret }

-- the job done: its replay was Sound
abbrev pub later_done : (secret : List ℕ) → DoneParts
later_done secret = record { job = later_job secret; verdict = Sound state_later [] }

-- what is handed in, the newest first
abbrev pub later_learned : (secret : List ℕ) → History
later_learned secret = (events.Learn (later_end secret) (client_key secret), Noted) ∷ []

-- then the entries after the base are asked for
abbrev pub later_asked : (secret : List ℕ) → History
later_asked secret = (events.Audit 5, Asked 3 3) ∷ later_learned secret

-- then they are given
abbrev pub later_answered : (secret : List ℕ) → History
later_answered secret = (events.Answer (later_closed secret), Accepted) ∷ later_asked secret

-- then their replay is begun
abbrev pub later_begun : (secret : List ℕ) → History
later_begun secret = (events.Begin 5, Job (later_job secret)) ∷ later_answered secret

-- then its verdict is filed
abbrev pub later_filed : (secret : List ℕ) → History
later_filed secret = (events.File (later_done secret), Filed) ∷ later_begun secret

-- and the client is Trusted
abbrev pub later_events : (secret : List ℕ) → History
later_events secret = (events.Ask 5 ItsIndication, Told Trusted) ∷ later_filed secret

-- the same as steps of the client
abbrev pub learned_later : (secret : List ℕ) → Past
learned_later secret = (Learn (later_end secret), Noted) ∷ []

-- then the entries after the base were asked for
abbrev pub asked_later : (secret : List ℕ) → Past
asked_later secret = (Audit, Asked 3 3) ∷ learned_later secret

-- then they were given
abbrev pub answered_later : (secret : List ℕ) → Past
answered_later secret = (Answer (later_closed secret), Accepted) ∷ asked_later secret

-- then their replay was begun
abbrev pub begun_later : (secret : List ℕ) → Past
begun_later secret = (Begin, Job (later_job secret)) ∷ answered_later secret

-- then its verdict was filed
abbrev pub filed_later : (secret : List ℕ) → Past
filed_later secret = (File (later_done secret), Filed) ∷ begun_later secret

-- and the client was Trusted
abbrev pub later_steps : (secret : List ℕ) → Past
later_steps secret = (Ask ItsIndication, Told Trusted) ∷ filed_later secret

-- ---- what the law on honest nodes supposes

-- The log is honest, by states with which no two texts have one digest: those of the log, of the base and of
-- the segment that was answered, and those of all its states.
pub record IsHonestUnlike (secret : List ℕ) : Type 0 where
  pub honest : IsHonestLog (alone secret) (opening_of (client secret)) checked_log state_later
  pub unlike : NoCollisionWith (watched_later secret) checked_log (opening_of (client secret) ∷ honest.states)
      (own_of (watched_later secret) (later_events secret))

-- the book after the audit: the end is 3
abbrev pub later_book : (secret : List ℕ) → BookParts
later_book secret = record {
  end = record { number = 3; state = state_later };
  stage = NoAudit;
  begun = 1;
  pairs = first_pair ∷ (1, first_hash) ∷ (2, check_hash) ∷ (3, later_hash) ∷ [];
  learned = [];
  challenges = [];
  outbox = [];
  segments = later_segment secret ∷ [];
  evidence = None;
}

-- ---- what the base shows

-- another hash at the CHECK's number, that the client signed by its other leaf
abbrev pub other_check : (secret : List ℕ) → Authenticator
other_check secret = signed secret 1 2 ones

-- it is learned
abbrev pub forked_later : (secret : List ℕ) → Past
forked_later secret = (Learn (other_check secret), Noted) ∷ []

-- what it proves, beside the base's showing
abbrev pub forked_evidence : (secret : List ℕ) → EvidenceParts
forked_evidence secret = record {
  node = 5;
  charge = Fork (record {
    log_version = One;
    at = 2;
    a = shown_part secret;
    b = Some (authenticator_showing One (other_check secret));
  });
}

-- ---- a fault after the base

-- another second reading, that goes back to before the first
abbrev pub back_reading : Logged
back_reading = record { skipped = 0; entry = Clock 0 0 }

-- its authenticator, that the client signed by its other leaf
abbrev pub back_end : (secret : List ℕ) → Authenticator
back_end secret = signed secret 1 3 (hash_after check_hash (logged_link 3 back_reading))

-- the reading, closed by that
abbrev pub back_segment : (secret : List ℕ) → VersionedParts
back_segment secret = record (later_segment secret) { entries = back_reading ∷ []; closing = back_end secret }

-- the same under the client's roster
abbrev pub back_closed : (secret : List ℕ) → ClosedParts
back_closed secret = record { segment = back_segment secret; roster = alone secret }

-- the job of replaying it, from the base's state
abbrev pub back_job : (secret : List ℕ) → JobParts
back_job secret = record { node = 5; number = 1; state = state_read; segment = back_closed secret }

-- the job done: the clock goes back
abbrev pub back_done : (secret : List ℕ) → DoneParts
back_done secret = record { job = back_job secret; verdict = Fault ClockBack 3 }

-- it is learned, asked for, given, and its replay begun
abbrev pub back_begun : (secret : List ℕ) → Past
back_begun secret =
    (Begin, Job (back_job secret)) ∷ (Answer (back_closed secret), Accepted) ∷ (Audit, Asked 3 3)
    ∷ (Learn (back_end secret), Noted) ∷ []

-- then its verdict was filed
abbrev pub back_filed : (secret : List ℕ) → Past
back_filed secret = (File (back_done secret), Filed) ∷ back_begun secret

-- what it proves: from the base on
abbrev pub back_evidence : (secret : List ℕ) → EvidenceParts
back_evidence secret = record { node = 5; charge = Based (base_parts secret) (back_segment secret) }
