-- A history of values that are really signed: a client with a secret of its own and a tree of two keys, whose
-- log is one reading of the clock.
use Rattle.std.specs.Prelude.{ℕ, List, [], ◌∷◌}
use Rattle.merkle_keys.specs.Signing.{signature_of}
use Rattle.merkle_keys.specs.Tree.{root}
use Rattle.authenticator.specs.Signed.{signed_digest}
use Rattle.authenticator.specs.declared.authenticator.Authenticator.{Authenticator}
use Rattle.authenticator.specs.declared.member.Kind.TheVariants.{Client}
use Rattle.authenticator.specs.declared.member.LogVersion.TheVariants.{One}
use Rattle.authenticator.specs.declared.member.Member.{Member}
use Rattle.secure_log.specs.LogEntries.Chain.{zeros, without_gaps}
use Rattle.secure_log.specs.declared.log_entries.entry.Entry.{Entry}
use Rattle.secure_log.specs.declared.log_entries.entry.Entry.TheVariants.{Clock}
use Rattle.secure_log.specs.Log.{LogParts, log_hash}
use Rattle.secure_log.specs.Versioned.{VersionedParts, ClosedParts, of_plain}
use Rattle.state_spec.specs.State.{State, opening_client}
use Rattle.state_spec.specs.Steps.{having_read}
use Rattle.replay_spec.specs.Replay.{Sound}
use Rattle.witness_spec.specs.Events.{PublicKey, JobParts, DoneParts, ItsIndication}
use Rattle.witness_spec.specs.Events as events
use Rattle.witness_spec.specs.Replies.{Noted, Accepted, Asked, Job, Filed, Told, Trusted}
use Rattle.witness_spec.specs.Steps.{Learn, Answer, Audit, Begin, File, Ask, Past}
use Rattle.witness_spec.specs.Histories.{History}

-- the client with a secret, as a member
abbrev pub client : (secret : List ℕ) → Member
client secret = record { node = 5; kind = Client; root = root secret 1; height = 1; log_version = One }

-- the client's public key
abbrev pub client_key : (secret : List ℕ) → PublicKey
client_key secret = record { root = root secret 1; height = 1 }

-- the roster that has this client alone
abbrev pub alone : (secret : List ℕ) → List Member
alone secret = client secret ∷ []

-- the entries of its log: one reading of the clock
abbrev pub readings : List Entry
readings = Clock 1 0 ∷ []

-- a log of these entries
abbrev pub its_log : LogParts
its_log = record { node = 5; log_version = One; entries = without_gaps readings; spare = 0 }

-- the hash at its end
abbrev pub read_hash : List ℕ
read_hash = log_hash (without_gaps readings)

-- the client's state after it
abbrev pub state_read : State
state_read = having_read (opening_client 5) (record { seconds = 1; microseconds = 0 })

-- its authenticator of a hash at a number, signed by one of its two leaves
abbrev pub signed : (secret : List ℕ) (leaf number : ℕ) (hash : List ℕ) → Authenticator
signed secret leaf number hash = record {
  node = 5;
  word = number;
  hash = hash;
  signature = signature_of secret 1 leaf (signed_digest 5 number hash);
}

-- that of its log's end
abbrev pub signed_end : (secret : List ℕ) → Authenticator
signed_end secret = signed secret 0 1 read_hash

-- its whole log, closed by that authenticator
abbrev pub signed_segment : (secret : List ℕ) → VersionedParts
signed_segment secret = of_plain (record {
  node = 5;
  first = 1;
  opening = zeros;
  entries = readings;
  closing = signed_end secret;
})

-- the same under the client's roster
abbrev pub signed_closed : (secret : List ℕ) → ClosedParts
signed_closed secret = record { segment = signed_segment secret; roster = alone secret }

-- the job of replaying it
abbrev pub signed_job : (secret : List ℕ) → JobParts
signed_job secret =
    record { node = 5; number = 1; state = opening_client 5; segment = signed_closed secret }

-- the job done: its replay was Sound
abbrev pub signed_done : (secret : List ℕ) → DoneParts
signed_done secret = record { job = signed_job secret; verdict = Sound state_read [] }

-- ---- its log is audited

-- what is handed in, the newest first
abbrev pub learned_event : (secret : List ℕ) → History
learned_event secret = (events.Learn (signed_end secret) (client_key secret), Noted) ∷ []

-- then the whole log is asked for
abbrev pub asked_event : (secret : List ℕ) → History
asked_event secret = (events.Audit 5, Asked 1 1) ∷ learned_event secret

-- then it is answered
abbrev pub answered_event : (secret : List ℕ) → History
answered_event secret = (events.Answer (signed_closed secret), Accepted) ∷ asked_event secret

-- then its replay is begun
abbrev pub begun_event : (secret : List ℕ) → History
begun_event secret = (events.Begin 5, Job (signed_job secret)) ∷ answered_event secret

-- then its verdict is filed
abbrev pub filed_event : (secret : List ℕ) → History
filed_event secret = (events.File (signed_done secret), Filed) ∷ begun_event secret

-- and the client is Trusted
abbrev pub audited_events : (secret : List ℕ) → History
audited_events secret = (events.Ask 5 ItsIndication, Told Trusted) ∷ filed_event secret

-- the same as steps of the client
abbrev pub learned_step : (secret : List ℕ) → Past
learned_step secret = (Learn (signed_end secret), Noted) ∷ []

-- then the whole log was asked for
abbrev pub asked_step : (secret : List ℕ) → Past
asked_step secret = (Audit, Asked 1 1) ∷ learned_step secret

-- then it was answered
abbrev pub answered_step : (secret : List ℕ) → Past
answered_step secret = (Answer (signed_closed secret), Accepted) ∷ asked_step secret

-- then its replay was begun
abbrev pub begun_step : (secret : List ℕ) → Past
begun_step secret = (Begin, Job (signed_job secret)) ∷ answered_step secret

-- then its verdict was filed
abbrev pub filed_step : (secret : List ℕ) → Past
filed_step secret = (File (signed_done secret), Filed) ∷ begun_step secret

-- and the client was Trusted
abbrev pub audited_steps : (secret : List ℕ) → Past
audited_steps secret = (Ask ItsIndication, Told Trusted) ∷ filed_step secret

-- ---- two hashes at one number

-- the client signs a second hash, by its other leaf
abbrev pub forked_event : (secret : List ℕ) → History
forked_event secret =
    (events.Learn (signed secret 1 0 read_hash) (client_key secret), Noted) ∷ learned_event secret

-- the same as steps of the client
abbrev pub forked_step : (secret : List ℕ) → Past
forked_step secret = (Learn (signed secret 1 0 read_hash), Noted) ∷ learned_step secret
