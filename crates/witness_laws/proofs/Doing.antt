-- What a step did, by the reply that is owed to it.
-- Serves: the laws of `trust` and `evidence`; what_is_asked_can_be_answered and own_words_can_be_answered
-- (witness_node_laws).
use Rattle.std.proofs.Common.{◌≡◌, ℕ, ◌+◌, ◌-◌, ◌≤◌, Bool, true, false, cond, ◌&&◌, ◌==◌, nat_lt, List}
use Rattle.std.proofs.Common.{[], ◌∷◌, Option, Some, None, refl, sym, ap, subst, ◌∙◌, eqb-true, arith}
use Rattle.std.proofs.lemmas.Bool.{and_parts, ltb-false, true≢false}
use Rattle.std.proofs.lemmas.Option.{same_Some}
use Rattle.std.specs.Prelude.{◌<◌, Decides, length}
use Rattle.std.specs.List.{AllByRecursion}
use Rattle.authenticator.specs.declared.authenticator.Authenticator.{Authenticator}
use Rattle.secure_log.specs.LogEntries.Chain.{IsAmong}
use Rattle.secure_log.specs.Versioned.{ClosedParts}
use Rattle.witness_spec.specs.Refusals as refusals
use Rattle.witness_spec.specs.Events.{JobParts, DoneParts}
use Rattle.witness_spec.specs.Replies.{Reply, Noted, Already, Accepted, Asked, Job, Filed, Returned, Refused}
use Rattle.witness_spec.specs.Replies.{FileRefused, PutBackRefused}
use Rattle.witness_spec.specs.Starting.{start_number, is_below}
use Rattle.witness_spec.specs.Watched.{Watched}
use Rattle.witness_spec.specs.Steps.{Step, Learn, SendChallenge, Answer, AckIn, Audit, Begin, File, PutBack}
use Rattle.witness_spec.specs.Steps.{Forward, Ask, Past}
use Rattle.witness_spec.specs.evidence_spec.Evidence.{MAX_AUDITED}
use Rattle.witness_spec.specs.Limits.{MAX_OUTBOX}
use Rattle.witness_spec.specs.Pairs.{number_of, pair_of, is_shown, last_of}
use Rattle.witness_spec.specs.Done.{noted, accepted, filed}
use Rattle.witness_spec.specs.Standing.{end_of, Stage, NoAudit, Wanted, Given, Out, stage_after, stage_of}
use Rattle.witness_spec.specs.Standing.{job_of}
use Rattle.witness_spec.specs.Standing.{out_at, job_out, is_exposed, shown, kept, outbox}
use Rattle.witness_spec.specs.Owing.{reply_told, answer_reply, audit_reply, ask_reply, last_in_reach}
use Rattle.witness_spec.specs.Owing.{begin_reply}
use Rattle.witness_spec.specs.Owing.{next_job, back_reply, has_no_room, IsOut, Owes}
use Rattle.witness_laws.proofs.Reach.{IsInReach, IsNumberOf, in_reach, kept_after}

-- what a step noted, accepted and filed, and where the audit stands after it
pub record Did (past : Past) (p : Step × Reply) (learned : Option Authenticator)
    (answer : Option ClosedParts) (job : Option JobParts) (to : Stage) : Type 0 where
  -- what it noted
  pub notes : noted p.0 p.1 ≡ learned
  -- the segment that it accepted
  pub accepts : accepted p.0 p.1 ≡ answer
  -- the job that it filed
  pub files : filed p.0 p.1 ≡ job
  -- where the audit stands after it
  pub stage : stage_after (stage_of past) p.0 p.1 ≡ to

-- what a step with its reply did
pub data Doing (w : Watched) (past : Past) (p : Step × Reply) : Type 0 where
  Nothing : Did past p None None None (stage_of past) → Doing w past p
  Notes : (a : Authenticator) → p.0 ≡ Learn a
      → (is_exposed w past ≡ false → is_below w.base (number_of w.member.log_version a) ≡ false)
      → Did past p (Some a) None None (stage_of past)
      → Doing w past p
  Accepts : (c : ClosedParts) → p.0 ≡ Answer c
      → stage_of past ≡ Wanted c.segment.first (last_of c.segment)
      → Did past p None (Some c) None (Given c) → Doing w past p
  Asks : (first last : ℕ) → first ≡ (end_of w past).number + 1
      → (last ≤ start_number w.base + MAX_AUDITED) × IsInReach first last
      × IsNumberOf w.member.log_version (kept w past) last
      → Did past p None None None (Wanted first last) → Doing w past p
  Begins : (c : ClosedParts) → stage_of past ≡ Given c → Did past p None None None (Out c)
      → Doing w past p
  Files : (j : JobParts) → stage_of past ≡ Out j.segment → Did past p None None (Some j) NoAudit
      → Doing w past p
  PutsBack : (c : ClosedParts) → stage_of past ≡ Out c → Did past p None None None (Given c)
      → Doing w past p

module _ (w : Watched) (past : Past) where
  learns : (a : Authenticator) (v x y z : Bool)
      → is_exposed w past ≡ v → is_below w.base (number_of w.member.log_version a) ≡ x
      → Doing w past (
        Learn a,
        cond v Noted (cond x (Refused refusals.BelowBase)
            (cond y Already (cond z (Refused refusals.LearnedFull) Noted))),
      )
  learns a true x y z exposed below =
      Notes a refl (λ sound. absurd (true≢false (sym exposed ∙ sound)))
      (record { notes = refl; accepts = refl; files = refl; stage = refl })
  learns a false true y z exposed below =
      Nothing (record { notes = refl; accepts = refl; files = refl; stage = refl })
  learns a false false true z exposed below =
      Nothing (record { notes = refl; accepts = refl; files = refl; stage = refl })
  learns a false false false true exposed below =
      Nothing (record { notes = refl; accepts = refl; files = refl; stage = refl })
  learns a false false false false exposed below =
      Notes a refl (λ sound. below) (record { notes = refl; accepts = refl; files = refl; stage = refl })

  answered : (c : ClosedParts) (first last : ℕ) (b : Bool) → stage_of past ≡ Wanted first last
      → ((c.segment.first == first) && (last_of c.segment == last)) ≡ b
      → Doing w past (Answer c, cond b Accepted (Refused refusals.NotAsked))
  answered c first last true is e =
      let both = and_parts (c.segment.first == first) (last_of c.segment == last) e in
      let one : c.segment.first ≡ first = eqb-true c.segment.first first both.0 in
      let other : last_of c.segment ≡ last = eqb-true (last_of c.segment) last both.1 in
      Accepts c refl (is ∙ (ap (λ n. Wanted n last) (sym one)
      ∙ ap (λ n. Wanted c.segment.first n) (sym other)))
      (record { notes = refl; accepts = refl; files = refl; stage = refl })
  answered c first last false is e =
      Nothing (record { notes = refl; accepts = refl; files = refl; stage = refl })

  answers : (c : ClosedParts) (s : Stage) → stage_of past ≡ s
      → Doing w past (Answer c, answer_reply s c)
  answers c NoAudit is = Nothing (record { notes = refl; accepts = refl; files = refl; stage = refl })
  answers c (Wanted first last) is =
      answered c first last ((c.segment.first == first) && (last_of c.segment == last)) is refl
  answers c (Given d) is = Nothing (record { notes = refl; accepts = refl; files = refl; stage = refl })
  answers c (Out d) is = Nothing (record { notes = refl; accepts = refl; files = refl; stage = refl })

  asked : (x y z : Bool) (first last : ℕ) → first ≡ (end_of w past).number + 1
      → (x ≡ false → IsInReach first last × IsNumberOf w.member.log_version (kept w past) last)
      → nat_lt (start_number w.base + MAX_AUDITED) last ≡ y
      → Doing w past (
        Audit,
        cond x (Refused refusals.TooFar) (cond y (Refused refusals.BookFull)
            (cond z (Refused refusals.OutboxFull) (Asked first last))),
      )
  asked true y z first last is reach e =
      Nothing (record { notes = refl; accepts = refl; files = refl; stage = refl })
  asked false true z first last is reach e =
      Nothing (record { notes = refl; accepts = refl; files = refl; stage = refl })
  asked false false true first last is reach e =
      Nothing (record { notes = refl; accepts = refl; files = refl; stage = refl })
  asked false false false first last is reach e =
      Asks first last is
      (omega (arith, ltb-false (start_number w.base + MAX_AUDITED) last e), (reach refl).0, (reach refl).1)
      (record { notes = refl; accepts = refl; files = refl; stage = refl })

  asks : (exposed : Bool) (waiting : ℕ) (learned : List Authenticator)
      → ((a : Authenticator) → IsAmong a learned → IsAmong a (kept w past))
      → AllByRecursion (λ a. (end_of w past).number < number_of w.member.log_version a) learned
      → Doing w past (
        Audit,
        ask_reply w.member.log_version exposed (start_number w.base) (end_of w past).number waiting learned,
      )
  asks true waiting learned within all =
      Nothing (record { notes = refl; accepts = refl; files = refl; stage = refl })
  asks false waiting [] within all =
      Nothing (record { notes = refl; accepts = refl; files = refl; stage = refl })
  asks false waiting (a ∷ learned) within all =
      let end = (end_of w past).number in
      let last = last_in_reach w.member.log_version end (a ∷ learned) in
      asked (last == 0) (nat_lt (start_number w.base + MAX_AUDITED) last) (nat_lt MAX_OUTBOX (waiting + (last - end)))
      (end + 1) last refl
      (in_reach w.member.log_version (kept w past) end (a ∷ learned) within all) refl

  audits : (s : Stage) → Doing w past (Audit, audit_reply w past s)
  audits NoAudit = asks (is_exposed w past) (length (outbox w past)) (kept w past) (λ a i. i)
      (kept_after w past)
  audits (Wanted first last) = Nothing (record { notes = refl; accepts = refl; files = refl; stage = refl })
  audits (Given c) = Nothing (record { notes = refl; accepts = refl; files = refl; stage = refl })
  audits (Out c) = Nothing (record { notes = refl; accepts = refl; files = refl; stage = refl })

  begun : (c : ClosedParts) (b : Bool) → stage_of past ≡ Given c
      → Doing w past (Begin, cond b (Refused refusals.NothingToAudit) (Job (next_job w past c)))
  begun c true is = Nothing (record { notes = refl; accepts = refl; files = refl; stage = refl })
  begun c false is = Begins c is (record { notes = refl; accepts = refl; files = refl; stage = refl })

  begins : (s : Stage) → stage_of past ≡ s → Doing w past (Begin, begin_reply w past s)
  begins NoAudit is = Nothing (record { notes = refl; accepts = refl; files = refl; stage = refl })
  begins (Wanted first last) is =
      Nothing (record { notes = refl; accepts = refl; files = refl; stage = refl })
  begins (Given c) is = begun c (is_exposed w past) is
  begins (Out c) is = Nothing (record { notes = refl; accepts = refl; files = refl; stage = refl })

  -- the job that is out is of the segment that is
  out_is : (j : JobParts) (s : Stage) → stage_of past ≡ s → out_at w past s ≡ Some j
      → stage_of past ≡ Out j.segment
  out_is j NoAudit is h = absurd (cc)
  out_is j (Wanted first last) is h = absurd (cc)
  out_is j (Given c) is h = absurd (cc)
  out_is j (Out c) is h = is ∙ ap (λ (x : JobParts). Out x.segment) (same_Some (job_of w past c) j h)

  files : (d : DoneParts) (b : Bool) (o : Option JobParts) → (b ≡ true → job_out w past ≡ Some d.job)
      → Doing w past (
        File d,
        back_reply b o Filed (FileRefused refusals.WrongJob d)
            (FileRefused refusals.NoJob d),
      )
  files d b None h = Nothing (record { notes = refl; accepts = refl; files = refl; stage = refl })
  files d true (Some j) h =
      Files d.job (out_is d.job (stage_of past) refl (h refl))
      (record { notes = refl; accepts = refl; files = refl; stage = refl })
  files d false (Some j) h = Nothing (record { notes = refl; accepts = refl; files = refl; stage = refl })

  puts_back : (j : JobParts) (b : Bool) (o : Option JobParts) → (b ≡ true → job_out w past ≡ Some j)
      → Doing w past (
        PutBack j,
        back_reply b o Returned (PutBackRefused refusals.WrongJob j)
            (PutBackRefused refusals.NoJob j),
      )
  puts_back j b None h = Nothing (record { notes = refl; accepts = refl; files = refl; stage = refl })
  puts_back j true (Some k) h =
      PutsBack j.segment (out_is j (stage_of past) refl (h refl))
      (record { notes = refl; accepts = refl; files = refl; stage = refl })
  puts_back j false (Some k) h = Nothing (record { notes = refl; accepts = refl; files = refl; stage = refl })

  told : (b : Bool) (step : Step) → Decides b (IsOut w past step)
      → Doing w past (step, reply_told b w past step)
  told b (Learn a) h =
      learns a (is_exposed w past) (is_below w.base (number_of w.member.log_version a))
      (is_shown (pair_of w.member.log_version a) (shown w past)) (has_no_room w past a) refl refl
  told b (SendChallenge e) h = Nothing (record { notes = refl; accepts = refl; files = refl; stage = refl })
  told b (Answer c) h = answers c (stage_of past) refl
  told b (AckIn a) h = Nothing (record { notes = refl; accepts = refl; files = refl; stage = refl })
  told b Audit h = audits (stage_of past)
  told b Begin h = begins (stage_of past) refl
  told b (File d) h = files d b (job_out w past) h.0
  told b (PutBack j) h = puts_back j b (job_out w past) h.0
  told b Forward h = Nothing (record { notes = refl; accepts = refl; files = refl; stage = refl })
  told b (Ask question) h = Nothing (record { notes = refl; accepts = refl; files = refl; stage = refl })

  -- What a step did, where its reply is owed.
  pub doing : (step : Step) (reply : Reply) → Owes w past step reply → Doing w past (step, reply)
  doing step reply g =
      subst (λ r. Doing w past (step, r)) (sym g.told) (told g.is_out step g.decides)
