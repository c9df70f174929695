-- What the book holds after a step with its reply.
use Rattle.std.specs.Prelude.{◌+◌, not, nat_lt, List, [], ◌∷◌, ◌++◌, filter, drop}
use Rattle.std.specs.Prelude.{Option, Some, None, option_map, option_and_then}
use Rattle.authenticator.specs.declared.authenticator.Authenticator.{Authenticator}
use Rattle.authenticator.specs.declared.member.LogVersion.{LogVersion}
use Rattle.secure_log.specs.Versioned.{VersionedParts, ClosedParts}
use Rattle.envelopes.specs.Acknowledgement.{acked_message}
use Rattle.envelopes.specs.declared.envelope.Envelope.{Envelope}
use Rattle.envelopes.specs.declared.acknowledgement.Ack.{Ack}
use Rattle.replay_spec.specs.Replay.{Verdict, Sound, Fault}
use Rattle.witness_laws.specs.evidence_spec.Showing.{ShowingParts, authenticator_showing, versioned_showing}
use Rattle.witness_laws.specs.evidence_spec.Evidence.{Charge, EvidenceParts}
use Rattle.witness_laws.specs.witness_spec.Events.{JobParts, DoneParts}
use Rattle.witness_laws.specs.witness_spec.Replies.{Reply, Noted, Opened, Accepted, Closed, Asked, Job, Filed}
use Rattle.witness_laws.specs.witness_spec.Replies.{Returned}
use Rattle.witness_laws.specs.witness_spec.Replies.{Forwarded, AuditOf, SendOf}
use Rattle.witness_laws.specs.witness_spec.Starting.{start_number, start_hash}
use Rattle.witness_laws.specs.witness_spec.Watched.{Watched}
use Rattle.witness_laws.specs.witness_spec.Steps.{Step, Learn, SendChallenge, Answer, AckIn, Audit, Begin}
use Rattle.witness_laws.specs.witness_spec.Steps.{File, PutBack}
use Rattle.witness_laws.specs.witness_spec.Steps.{Forward, Ask, Past}
use Rattle.witness_laws.specs.witness_spec.Pairs.{Pair, pair_of, first_fork, number_of, last_of, marks_of}
use Rattle.witness_laws.specs.witness_spec.Standing.{moved_by, sound_found, is_answered, is_send_of}
use Rattle.witness_laws.specs.witness_spec.Standing.{NoAudit, Wanted, Given, Out}
use Rattle.witness_laws.specs.witness_spec.Exposing.{fork_of, replay_from}
use Rattle.witness_book_laws.specs.Books.{Book, book_starting, book_shown, book_audited}

-- ---- evidence

-- the evidence against the book's node that a charge is
abbrev pub evidence_of : Book → Option Charge → Option EvidenceParts
evidence_of b charge = option_map (λ g. record { node = b.node; charge = g }) charge

-- the first evidence stays
abbrev pub first_evidence : (old new : Option EvidenceParts) → Option EvidenceParts
first_evidence None new = new
first_evidence (Some e) new = Some e

-- the evidence that a new showing of these pairs brings: a fork with what was shown, at the least number
abbrev pub fork_evidence : Book → (new : ShowingParts) → List Pair → Option EvidenceParts
fork_evidence b new pairs =
    evidence_of b
    (option_and_then (fork_of b.base b.log_version b.learned b.segments new) (first_fork pairs (book_shown b)))

-- all audited entries and those of a segment, with its closing, from where the audit began
abbrev pub audited_with : Book → VersionedParts → VersionedParts
audited_with b s = record {
  log_version = b.log_version;
  node = b.node;
  first = start_number b.base + 1;
  opening = start_hash b.base;
  entries = book_audited b ++ s.entries;
  closing = s.closing;
}

-- the charge that a verdict on a segment brings
abbrev pub verdict_charge : Book → VersionedParts → Verdict → Option Charge
verdict_charge b s (Sound t found) = None
verdict_charge b s (Fault fault number) = Some (replay_from b.base (audited_with b s))

-- the evidence after an authenticator that was noted
abbrev pub evidence_noted : Book → Authenticator → Option EvidenceParts
evidence_noted b a =
    first_evidence b.evidence
    (fork_evidence b (authenticator_showing b.log_version a) (pair_of b.log_version a ∷ []))

-- the evidence after a segment that was accepted
abbrev pub evidence_accepted : Book → VersionedParts → Option EvidenceParts
evidence_accepted b s = first_evidence b.evidence (fork_evidence b (versioned_showing s) (marks_of s))

-- the evidence after a verdict that was filed
abbrev pub evidence_filed : Book → VersionedParts → Verdict → Option EvidenceParts
evidence_filed b s v = first_evidence b.evidence (evidence_of b (verdict_charge b s v))

-- ---- what is kept

-- An authenticator is kept unless there is evidence.
abbrev pub learned_unless : Option EvidenceParts → List Authenticator → Authenticator → List Authenticator
learned_unless None learned a = learned ++ a ∷ []
learned_unless (Some e) learned a = learned

-- Where a segment was sound, what lies above its last number stays.
abbrev pub learned_above : LogVersion → VersionedParts → Verdict → List Authenticator → List Authenticator
learned_above v s (Sound t found) learned = filter (λ a. nat_lt (last_of s) (number_of v a)) learned
learned_above v s (Fault fault number) learned = learned

-- ---- one function for each kind of event that changes a book

-- after an authenticator that was learned
abbrev pub after_learn : Book → Authenticator → Reply → Book
after_learn b a Noted =
    record b { learned = learned_unless (evidence_noted b a) b.learned a; evidence = evidence_noted b a }
after_learn b a _ = b

-- after a challenge with a message
abbrev pub after_send_challenge : Book → Envelope → Reply → Book
after_send_challenge b e Opened = record b { challenges = b.challenges ++ SendOf e ∷ [] }
after_send_challenge b e _ = b

-- after a segment that was given
abbrev pub after_answer : Book → ClosedParts → Reply → Book
after_answer b c Accepted = record b {
  stage = Given c;
  segments = b.segments ++ c.segment ∷ [];
  challenges = filter (λ x. not (is_answered c.segment x)) b.challenges;
  evidence = evidence_accepted b c.segment;
}
after_answer b c _ = b

-- after an acknowledgement
abbrev pub after_ack : Book → Ack → Reply → Book
after_ack b a Closed =
    record b { challenges = filter (λ x. not (is_send_of (acked_message a) x)) b.challenges }
after_ack b a _ = b

-- after an audit
abbrev pub after_audit : Book → Reply → Book
after_audit b (Asked first last) =
    record b { stage = Wanted first last; challenges = b.challenges ++ AuditOf first last ∷ [] }
after_audit b _ = b

-- after a job began
abbrev pub after_begin : Book → Reply → Book
after_begin b (Job j) = record b { stage = Out j.segment; begun = b.begun + 1 }
after_begin b _ = b

-- after a segment with its verdict was filed
abbrev pub having_filed : Book → VersionedParts → Verdict → Book
having_filed b s v = record b {
  end = moved_by b.end (last_of s) v;
  stage = NoAudit;
  learned = learned_above b.log_version s v b.learned;
  outbox = b.outbox ++ sound_found v;
  evidence = evidence_filed b s v;
}

-- after a done job; the verdict is its own
abbrev pub after_file : Book → DoneParts → Reply → Book
after_file b d Filed = having_filed b d.job.segment.segment d.verdict
after_file b d _ = b

-- after a job that was put back
abbrev pub after_put_back : Book → JobParts → Reply → Book
after_put_back b j Returned = record b { stage = Given j.segment }
after_put_back b j _ = b

-- after something was forwarded
abbrev pub after_forward : Book → Reply → Book
after_forward b (Forwarded a) = record b { outbox = drop 1 b.outbox }
after_forward b _ = b

-- ---- all steps

-- What the book holds after a step with its reply; a question changes nothing.
abbrev pub book_after : Book → Step → Reply → Book
book_after b (Learn a) reply = after_learn b a reply
book_after b (SendChallenge e) reply = after_send_challenge b e reply
book_after b (Answer c) reply = after_answer b c reply
book_after b (AckIn a) reply = after_ack b a reply
book_after b Audit reply = after_audit b reply
book_after b Begin reply = after_begin b reply
book_after b (File d) reply = after_file b d reply
book_after b (PutBack j) reply = after_put_back b j reply
book_after b Forward reply = after_forward b reply
book_after b (Ask question) reply = b

-- the book of a member after its own steps
abbrev pub book_after_steps : Watched → Past → Book
book_after_steps w [] = book_starting w.member w.base
book_after_steps w (p ∷ past) = book_after (book_after_steps w past) p.0 p.1
