-- What one node's own steps say of it. The steps are listed with their replies, the newest first; `w`
-- has the node's member and the roster.
use Rattle.std.specs.Prelude.{ℕ, Bool, true, false, not, ◌&&◌, ◌||◌, ◌==◌, nat_lt, List, [], ◌∷◌, ◌++◌}
use Rattle.std.specs.Prelude.{filter, drop, count_by, Option, Some, None, is_some}
use Rattle.std.specs.Prelude.{if◌then◌else◌}
use Rattle.std.specs.List.{list_any}
use Rattle.sha2.specs.Sha256.{sha256}
use Rattle.authenticator.specs.declared.authenticator.Authenticator.{Authenticator}
use Rattle.authenticator.specs.declared.member.LogVersion.{LogVersion}
use Rattle.authenticator.specs.declared.member.Member.{Member}
use Rattle.secure_log.specs.declared.log_entries.entry.Entry.{Entry}
use Rattle.secure_log.specs.declared.log_entries.entry.Entry.TheVariants as entries
use Rattle.secure_log.specs.LogEntries.Chain.{Logged}
use Rattle.secure_log.specs.LogEntries.Messages.{message_hash}
use Rattle.secure_log.specs.Versioned.{VersionedParts, ClosedParts}
use Rattle.packets.specs.envelopes.Envelope.{envelope_message}
use Rattle.packets.specs.envelopes.Acknowledgement.{acked_message}
use Rattle.packets.specs.envelopes.declared.message.Message.{Message}
use Rattle.state_spec.specs.State.{State}
use Rattle.evidence_spec.specs.replay_spec.Placed.{places_in}
use Rattle.authenticator.specs.Signing.{is_same}
use Rattle.evidence_spec.specs.replay_spec.Replay.{Verdict, Sound, Fault, verdict_of}
use Rattle.witness_spec.specs.Events.{JobParts}
use Rattle.witness_spec.specs.Replies.{Reply, Challenge, AuditOf, SendOf}
use Rattle.witness_spec.specs.Replies.{Indication, Trusted, Suspected, Exposed}
use Rattle.witness_spec.specs.Replies as replies
use Rattle.witness_spec.specs.Starting.{start_number, start_state, start_pairs}
use Rattle.witness_spec.specs.Watched.{Watched}
use Rattle.witness_spec.specs.Steps.{Step, Past}
use Rattle.witness_spec.specs.Steps as steps
use Rattle.witness_spec.specs.Pairs.{Pair, pair_of, has_fork, number_of, last_of, marks_of}
use Rattle.witness_spec.specs.Done.{noted, accepted, begun, filed, forwarded}

-- ---- what was audited

-- the last number of the last segment that was filed Sound, and the state there
pub record End : Type 0 where
  pub number : ℕ
  pub state : State

-- the segment of a job, if there is one, and what a replay of it finds after a state
abbrev pub verdict_on : List Member → State → JobParts → Verdict
verdict_on ms s j = verdict_of ms s (places_in j.segment.segment)

-- a verdict on a segment with this last number moves the end
abbrev pub moved_by : End → (last : ℕ) → Verdict → End
moved_by end last (Sound s found) = record { number = last; state = s }
moved_by end last (Fault fault number) = end

-- the end after a job that may have been filed
abbrev pub end_after : List Member → End → Option JobParts → End
end_after ms end None = end
end_after ms end (Some j) = moved_by end (last_of j.segment.segment) (verdict_on ms end.state j)

-- At first it is where the audit begins, with the state there.
abbrev pub end_of : Watched → Past → End
end_of w [] = record { number = start_number w.base; state = start_state w.member w.base }
end_of w (p ∷ past) = end_after w.roster (end_of w past) (filed p.0 p.1)

-- A verdict is a fault: no list of states makes the segment honest.
abbrev pub is_fault : Verdict → Bool
is_fault (Sound s found) = false
is_fault (Fault fault number) = true

-- a job that may have been filed has a fault
abbrev pub finds_fault : List Member → State → Option JobParts → Bool
finds_fault ms s None = false
finds_fault ms s (Some j) = is_fault (verdict_on ms s j)

-- some File was answered Filed for a segment that no list of states makes honest
abbrev pub has_fault : Watched → Past → Bool
has_fault w [] = false
has_fault w (p ∷ past) =
    finds_fault w.roster (end_of w past).state (filed p.0 p.1) || has_fault w past

-- the entries of a segment that is found sound
abbrev pub sound_entries : List Logged → Verdict → List Logged
sound_entries entries (Sound s found) = entries
sound_entries entries (Fault fault number) = []

-- the entries of a job that may have been filed, where it is sound
abbrev pub entries_filed : List Member → State → Option JobParts → List Logged
entries_filed ms s None = []
entries_filed ms s (Some j) = sound_entries j.segment.segment.entries (verdict_on ms s j)

-- all entries that were audited: those of the segments filed Sound, in order
abbrev pub audited : Watched → Past → List Logged
audited w [] = []
audited w (p ∷ past) = audited w past ++ entries_filed w.roster (end_of w past).state (filed p.0 p.1)

-- ---- what was shown

-- the pairs of an authenticator that was noted while the node wasn't exposed
abbrev pub pairs_noted : LogVersion → (was_exposed : Bool) → Option Authenticator → List Pair
pairs_noted v was_exposed None = []
pairs_noted v true (Some a) = []
pairs_noted v false (Some a) = pair_of v a ∷ []

-- the pairs of a segment that was accepted
abbrev pub pairs_accepted : Option ClosedParts → List Pair
pairs_accepted None = []
pairs_accepted (Some c) = marks_of c.segment

-- What was shown: the pairs where the audit begins, those of each segment that was accepted, and of each
-- authenticator that was noted while the node wasn't yet exposed.
abbrev pub shown : Watched → Past → List Pair
shown w [] = start_pairs w.base
shown w (p ∷ past) =
    pairs_noted w.member.log_version (has_fork (shown w past) || has_fault w past) (noted p.0 p.1)
    ++ (pairs_accepted (accepted p.0 p.1) ++ shown w past)

-- One number has two marks among what was shown, two hashes or a hash and that no entry has it, or a segment was
-- filed that isn't honest.
abbrev pub is_exposed : Watched → Past → Bool
is_exposed w past = has_fork (shown w past) || has_fault w past

-- ---- what is kept

-- an authenticator that was noted, unless the node is exposed
abbrev pub unless_exposed : Bool → Option Authenticator → List Authenticator
unless_exposed exposed None = []
unless_exposed true (Some a) = []
unless_exposed false (Some a) = a ∷ []

-- those that were noted before the exposing step
abbrev pub noted_before : Watched → Past → List Authenticator
noted_before w [] = []
noted_before w (p ∷ past) =
    unless_exposed (is_exposed w (p ∷ past)) (noted p.0 p.1) ++ noted_before w past

-- of these, those with numbers above the end
abbrev pub kept : Watched → Past → List Authenticator
kept w past =
    filter (λ a. nat_lt (end_of w past).number (number_of w.member.log_version a)) (noted_before w past)

-- the segments that were accepted, the newest first
abbrev pub segment_of : Option ClosedParts → List VersionedParts
segment_of None = []
segment_of (Some c) = c.segment ∷ []

-- all segments that were accepted, the newest first
abbrev pub all_accepted : Past → List VersionedParts
all_accepted [] = []
all_accepted (p ∷ past) = segment_of (accepted p.0 p.1) ++ all_accepted past

-- ---- the audit

-- How far an audit is: there is none; a segment is asked for; one is given; a job of it is out.
pub data Stage : Type 0 where
  NoAudit : Stage
  Wanted : (first last : ℕ) → Stage
  Given : ClosedParts → Stage
  Out : ClosedParts → Stage

-- the audit's stage after a step with its reply
abbrev pub stage_after : Stage → Step → Reply → Stage
stage_after stage steps.Audit (replies.Asked first last) = Wanted first last
stage_after stage (steps.Answer c) replies.Accepted = Given c
stage_after stage steps.Begin (replies.Job j) = Out j.segment
stage_after stage (steps.PutBack j) replies.Returned = Given j.segment
stage_after stage (steps.File d) replies.Filed = NoAudit
stage_after stage _ _ = stage

-- It is told by the last successful Audit, Answer, Begin, PutBack or File.
abbrev pub stage_of : Past → Stage
stage_of [] = NoAudit
stage_of (p ∷ past) = stage_after (stage_of past) p.0 p.1

-- how many jobs were begun
abbrev pub begins : Past → ℕ
begins past = count_by (λ p. is_some (begun p.0 p.1)) past

-- The job of a segment: it has the number of the last Begin and the end's state.
abbrev pub job_of : Watched → Past → ClosedParts → JobParts
job_of w past c =
    record { node = w.member.node; number = begins past; state = (end_of w past).state; segment = c }

-- the job that is out
abbrev pub out_at : Watched → Past → Stage → Option JobParts
out_at w past NoAudit = None
out_at w past (Wanted first last) = None
out_at w past (Given c) = None
out_at w past (Out c) = Some (job_of w past c)

-- the job that is out, if one is
abbrev pub job_out : Watched → Past → Option JobParts
job_out w past = out_at w past (stage_of past)

-- ---- open challenges

-- two messages are the same
abbrev pub same_message : Message → Message → Bool
same_message a b = (a.from == b.from) && ((a.seq == b.seq) && is_same a.hash b.hash)

-- an entry in the log of `node` is the RECV of a message
abbrev pub is_recv_of : (node : ℕ) → Message → Entry → Bool
is_recv_of node message (entries.Send to body) = false
is_recv_of node message (entries.Recv from seq prev body signature) =
    same_message message (record { from = from; seq = seq; hash = message_hash node seq prev (sha256 body) })
is_recv_of node message (entries.Ack to seq mine number prev signature) = false
is_recv_of node message (entries.Clock seconds microseconds) = false
is_recv_of node message (entries.Check digest) = false

-- a segment answers the audit, and each send challenge whose message a RECV in it has
abbrev pub is_answered : VersionedParts → Challenge → Bool
is_answered s (AuditOf first last) = true
is_answered s (SendOf e) = list_any (λ (l : Logged). is_recv_of s.node (envelope_message e) l.entry) s.entries

-- a challenge is to acknowledge a message
abbrev pub is_send_of : Message → Challenge → Bool
is_send_of message (AuditOf first last) = false
is_send_of message (SendOf e) = same_message message (envelope_message e)

-- the open challenges after a step with its reply
abbrev pub open_after : List Challenge → Step → Reply → List Challenge
open_after old steps.Audit (replies.Asked first last) = old ++ AuditOf first last ∷ []
open_after old (steps.SendChallenge e) replies.Opened = old ++ SendOf e ∷ []
open_after old (steps.Answer c) replies.Accepted = filter (λ x. not (is_answered c.segment x)) old
open_after old (steps.AckIn a) replies.Closed = filter (λ x. not (is_send_of (acked_message a) x)) old
open_after old _ _ = old

-- the challenges that were accepted and not answered since, in order
abbrev pub open_challenges : Past → List Challenge
open_challenges [] = []
open_challenges (p ∷ past) = open_after (open_challenges past) p.0 p.1

-- a node without evidence is Suspected where a challenge is open, else Trusted
abbrev pub without_evidence : List Challenge → Indication
without_evidence [] = Trusted
without_evidence (x ∷ xs) = Suspected

-- What is said of the node.
abbrev pub indication : Watched → Past → Indication
indication w past =
    if is_exposed w past then Exposed else without_evidence (open_challenges past)

-- ---- the outbox

-- what a sound replay found
abbrev pub sound_found : Verdict → List Authenticator
sound_found (Sound s found) = found
sound_found (Fault fault number) = []

-- what the replay of a job that may have been filed found
abbrev pub found_filed : List Member → State → Option JobParts → List Authenticator
found_filed ms s None = []
found_filed ms s (Some j) = sound_found (verdict_on ms s j)

-- what the segments filed Sound show of other nodes' logs, in order
abbrev pub all_found : Watched → Past → List Authenticator
all_found w [] = []
all_found w (p ∷ past) = all_found w past ++ found_filed w.roster (end_of w past).state (filed p.0 p.1)

-- how many were forwarded
abbrev pub forwards : Past → ℕ
forwards past = count_by (λ p. is_some (forwarded p.0 p.1)) past

-- what is still to be forwarded, the oldest first
abbrev pub outbox : Watched → Past → List Authenticator
outbox w past = drop (forwards past) (all_found w past)
