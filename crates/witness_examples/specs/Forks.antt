-- Own steps that show two hashes at one number of a client, and the evidence of them.
use Rattle.std.specs.Prelude.{ℕ, ◌∷◌, [], List, Option}
use Rattle.authenticator.specs.Numbers.{word_of}
use Rattle.authenticator.specs.declared.authenticator.Authenticator.{Authenticator}
use Rattle.authenticator.specs.declared.member.LogVersion.{LogVersion}
use Rattle.authenticator.specs.declared.member.LogVersion.TheVariants.{One, Two}
use Rattle.authenticator.specs.declared.member.Member.{Member}
use Rattle.secure_log.specs.LogEntries.Chain.{Logged, zeros, logged_links, last_hash, without_gaps}
use Rattle.secure_log.specs.declared.log_entries.entry.Entry.{Entry}
use Rattle.secure_log.specs.declared.log_entries.entry.Entry.TheVariants.{Clock}
use Rattle.secure_log.specs.Versioned.{VersionedParts, ClosedParts, of_plain}
use Rattle.secure_log.specs.Log.{log_hash}
use Rattle.state_spec.specs.State.{State, opening_client}
use Rattle.state_spec.specs.Steps.{having_read}
use Rattle.replay_spec.specs.Replay.{Sound}
use Rattle.witness_spec.specs.evidence_spec.Showing.{ShowingParts}
use Rattle.witness_spec.specs.evidence_spec.Evidence.{Fork, EvidenceParts}
use Rattle.witness_spec.specs.Events.{JobParts}
use Rattle.witness_spec.specs.Replies.{Noted, Accepted, Asked, Job, Filed}
use Rattle.witness_spec.specs.Watched.{Watched}
use Rattle.witness_spec.specs.Steps.{Learn, Answer, Audit, Begin, File, Past}
use Rattle.witness_examples.specs.Reaching.{watched_in}
use Rattle.witness_examples.specs.Worked.{five, learned, one_hash, other_hash, closed, filed_two, learned_to}
use Rattle.witness_examples.specs.Worked.{state_read}

-- that a number has two hashes, in a log of a version
abbrev pub forked_in : LogVersion → (at : ℕ) (a : ShowingParts) (b : Option ShowingParts) → EvidenceParts
forked_in v at a b = record { node = 5; charge = Fork (record { log_version = v; at = at; a = a; b = b }) }

-- in one of version 1
abbrev pub forked : (at : ℕ) (a : ShowingParts) (b : Option ShowingParts) → EvidenceParts
forked at a b = forked_in One at a b

-- a hash at 0 that isn't 32 zero bytes
abbrev pub zero_forked : Past
zero_forked = (Learn (learned 0 one_hash), Noted) ∷ []

-- another hash at number 1 than in the segment that is asked for
abbrev pub answer_wanted : Past
answer_wanted = (Audit, Asked 1 1) ∷ (Learn (learned 1 one_hash), Noted) ∷ []

-- and that is then given
abbrev pub answer_forked : Past
answer_forked = (Answer closed, Accepted) ∷ answer_wanted

-- two readings
abbrev pub two_readings : List Entry
two_readings = Clock 1 0 ∷ Clock 2 0 ∷ []

-- a segment of them
abbrev pub two_segment : VersionedParts
two_segment = of_plain (record {
  node = 5;
  first = 1;
  opening = zeros;
  entries = two_readings;
  closing = learned 2 (log_hash (without_gaps two_readings));
})

-- it was given
abbrev pub two_given : Past
two_given =
    (Answer (record { segment = two_segment; roster = [] }), Accepted) ∷ (Audit, Asked 1 2)
    ∷ (Learn two_segment.closing, Noted) ∷ []

-- another hash at its first number, where no authenticator is kept
abbrev pub segment_forked : Past
segment_forked = (Learn (learned 1 one_hash), Noted) ∷ two_given

-- another hash at the end, after an audit
abbrev pub audited_forked : Past
audited_forked = (Learn (learned 1 one_hash), Noted) ∷ filed_two

-- another hash at a number of 256 that are kept
abbrev pub full_forked : Past
full_forked = (Learn (learned 3 other_hash), Noted) ∷ learned_to 256

-- ---- after an audit

-- a reading after the one that was audited
abbrev pub later_readings : List Entry
later_readings = Clock 2 0 ∷ []

-- a segment of it, whose opening isn't the hash at the end
abbrev pub later_segment : VersionedParts
later_segment = of_plain (record {
  node = 5;
  first = 2;
  opening = one_hash;
  entries = later_readings;
  closing = learned 2 (last_hash one_hash (logged_links 1 (without_gaps later_readings)));
})

-- with a roster
abbrev pub later_closed : ClosedParts
later_closed = record { segment = later_segment; roster = [] }

-- it is asked for
abbrev pub later_wanted : Past
later_wanted = (Audit, Asked 2 2) ∷ (Learn later_segment.closing, Noted) ∷ filed_two

-- and given
abbrev pub opening_forked : Past
opening_forked = (Answer later_closed, Accepted) ∷ later_wanted

-- the state after two readings
abbrev pub state_two : State
state_two = having_read state_read (record { seconds = 2; microseconds = 0 })

-- the job of both readings
abbrev pub two_job : JobParts
two_job = record {
  node = 5;
  number = 1;
  state = opening_client 5;
  segment = record { segment = two_segment; roster = [] };
}

-- it is filed Sound, so the end is 2
abbrev pub two_filed : Past
two_filed =
    (File (record { job = two_job; verdict = Sound state_two [] }), Filed) ∷ (Begin, Job two_job) ∷ two_given

-- another hash below the end
abbrev pub below_forked : Past
below_forked = (Learn (learned 1 one_hash), Noted) ∷ two_filed

-- another hash at the end
abbrev pub end_forked : Past
end_forked = (Learn (learned 2 one_hash), Noted) ∷ two_filed

-- ---- a log of version 2

-- the client, where its log is of version 2
abbrev pub five_two : Member
five_two = record five { log_version = Two }

-- its node, under a roster that has it alone
abbrev pub node_two : Watched
node_two = watched_in (five_two ∷ []) five_two

-- its authenticator of a hash at number 3, just before which so many numbers are skipped
abbrev pub skipping : (skipped : ℕ) (hash : List ℕ) → Authenticator
skipping skipped hash = learned (word_of skipped 3) hash

-- one that skips one number was learned
abbrev pub skipping_one : Past
skipping_one = (Learn (skipping 1 one_hash), Noted) ∷ []

-- then one of another hash, that skips two
abbrev pub skipping_forked : Past
skipping_forked = (Learn (skipping 2 other_hash), Noted) ∷ skipping_one

-- two readings, just before the second of which number 2 is skipped
abbrev pub gap_readings : List Logged
gap_readings = record { skipped = 0; entry = Clock 1 0 } ∷ record { skipped = 1; entry = Clock 2 0 } ∷ []

-- a segment of them, of numbers 1 to 3
abbrev pub gap_segment : VersionedParts
gap_segment = record {
  log_version = Two;
  node = 5;
  first = 1;
  opening = zeros;
  entries = gap_readings;
  closing = skipping 1 (log_hash gap_readings);
}

-- under that roster
abbrev pub gap_closed : ClosedParts
gap_closed = record { segment = gap_segment; roster = five_two ∷ [] }

-- it is asked for
abbrev pub gap_wanted : Past
gap_wanted = (Audit, Asked 1 3) ∷ (Learn gap_segment.closing, Noted) ∷ []

-- and given
abbrev pub gap_given : Past
gap_given = (Answer gap_closed, Accepted) ∷ gap_wanted

-- then an authenticator of the number that it skips
abbrev pub gap_forked : Past
gap_forked = (Learn (learned 2 one_hash), Noted) ∷ gap_given
