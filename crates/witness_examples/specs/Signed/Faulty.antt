-- A history of values that are really signed, of a client whose clock goes back: it reads 1 second, then 0.
use Rattle.std.specs.Prelude.{ℕ, List, [], ◌∷◌}
use Rattle.authenticator.specs.declared.authenticator.Authenticator.{Authenticator}
use Rattle.secure_log.specs.LogEntries.Chain.{zeros, without_gaps}
use Rattle.secure_log.specs.declared.log_entries.entry.Entry.{Entry}
use Rattle.secure_log.specs.declared.log_entries.entry.Entry.TheVariants.{Clock}
use Rattle.secure_log.specs.Versioned.{VersionedParts, ClosedParts, of_plain}
use Rattle.secure_log.specs.Log.{log_hash}
use Rattle.state_spec.specs.State.{opening_client}
use Rattle.replay_spec.specs.Stepping.{ClockBack}
use Rattle.replay_spec.specs.Replay.{Fault}
use Rattle.witness_spec.specs.Events.{JobParts, DoneParts, ItsIndication}
use Rattle.witness_spec.specs.Events as events
use Rattle.witness_spec.specs.Replies.{Noted, Accepted, Asked, Job, Filed, Told, Exposed}
use Rattle.witness_spec.specs.Steps.{Learn, Answer, Audit, Begin, File, Ask, Past}
use Rattle.witness_spec.specs.Histories.{History}
use Rattle.witness_examples.specs.Signed.Audited.{client_key, alone, signed}

-- the entries of its log
abbrev pub back_readings : List Entry
back_readings = Clock 1 0 ∷ Clock 0 0 ∷ []

-- the hash at its end
abbrev pub back_hash : List ℕ
back_hash = log_hash (without_gaps back_readings)

-- its authenticator of that
abbrev pub back_end : (secret : List ℕ) → Authenticator
back_end secret = signed secret 0 2 back_hash

-- its whole log, closed by that authenticator
abbrev pub back_segment : (secret : List ℕ) → VersionedParts
back_segment secret = of_plain (record {
  node = 5;
  first = 1;
  opening = zeros;
  entries = back_readings;
  closing = back_end secret;
})

-- the same under the client's roster
abbrev pub back_closed : (secret : List ℕ) → ClosedParts
back_closed secret = record { segment = back_segment secret; roster = alone secret }

-- the job of replaying it
abbrev pub back_job : (secret : List ℕ) → JobParts
back_job secret =
    record { node = 5; number = 1; state = opening_client 5; segment = back_closed secret }

-- the job done: its replay found that the clock goes back at 2
abbrev pub back_done : (secret : List ℕ) → DoneParts
back_done secret = record { job = back_job secret; verdict = Fault ClockBack 2 }

-- ---- its log is audited

-- what is handed in, the newest first
abbrev pub back_learned : (secret : List ℕ) → History
back_learned secret = (events.Learn (back_end secret) (client_key secret), Noted) ∷ []

-- then the whole log is asked for
abbrev pub back_asked : (secret : List ℕ) → History
back_asked secret = (events.Audit 5, Asked 1 2) ∷ back_learned secret

-- then it is answered
abbrev pub back_answered : (secret : List ℕ) → History
back_answered secret = (events.Answer (back_closed secret), Accepted) ∷ back_asked secret

-- then its replay is begun
abbrev pub back_begun : (secret : List ℕ) → History
back_begun secret = (events.Begin 5, Job (back_job secret)) ∷ back_answered secret

-- then its verdict is filed
abbrev pub back_filed : (secret : List ℕ) → History
back_filed secret = (events.File (back_done secret), Filed) ∷ back_begun secret

-- and the client is Exposed
abbrev pub back_events : (secret : List ℕ) → History
back_events secret = (events.Ask 5 ItsIndication, Told Exposed) ∷ back_filed secret

-- the same as steps of the client
abbrev pub learned_back : (secret : List ℕ) → Past
learned_back secret = (Learn (back_end secret), Noted) ∷ []

-- then the whole log was asked for
abbrev pub asked_back : (secret : List ℕ) → Past
asked_back secret = (Audit, Asked 1 2) ∷ learned_back secret

-- then it was answered
abbrev pub answered_back : (secret : List ℕ) → Past
answered_back secret = (Answer (back_closed secret), Accepted) ∷ asked_back secret

-- then its replay was begun
abbrev pub begun_back : (secret : List ℕ) → Past
begun_back secret = (Begin, Job (back_job secret)) ∷ answered_back secret

-- then its verdict was filed
abbrev pub filed_back : (secret : List ℕ) → Past
filed_back secret = (File (back_done secret), Filed) ∷ begun_back secret

-- and the client was Exposed
abbrev pub back_steps : (secret : List ℕ) → Past
back_steps secret = (Ask ItsIndication, Told Exposed) ∷ filed_back secret
