-- The book of a member after its own steps replies what is owed.
-- Serves: all laws here.
use Rattle.std.proofs.Common.{◌≡◌, ◌↔◌, ℕ, ◌+◌, Bool, true, false, cond, not, ◌&&◌, nat_lt, nat_le, List, []}
use Rattle.std.proofs.Common.{◌∷◌, map, filter, length, Option, Some, refl, sym, ap, ap₂, inl}
use Rattle.std.proofs.Common.{◌∙◌}
use Rattle.authenticator.specs.declared.authenticator.Authenticator.{Authenticator}
use Rattle.authenticator.specs.declared.member.LogVersion.{LogVersion}
use Rattle.secure_log.specs.Versioned.{ClosedParts}
use Rattle.envelopes.specs.Acknowledgement.{acked_message}
use Rattle.witness_laws.specs.witness_spec.Refusals.{LearnedFull, NothingToAudit, NoJob, WrongJob, BelowBase}
use Rattle.witness_laws.specs.witness_spec.Events.{JobParts, Question, ItsIndication, ItsChallenges}
use Rattle.witness_laws.specs.witness_spec.Events.{ItsEvidence}
use Rattle.witness_laws.specs.witness_spec.Replies.{Reply, Noted, Already, Job, Filed, Returned, Told}
use Rattle.witness_laws.specs.witness_spec.Replies.{OpenList}
use Rattle.witness_laws.specs.witness_spec.Replies.{EvidenceIs}
use Rattle.witness_laws.specs.witness_spec.Replies.{Refused, FileRefused, PutBackRefused, Exposed}
use Rattle.witness_laws.specs.witness_spec.Starting.{KnownBase, start_number, is_below}
use Rattle.witness_laws.specs.witness_spec.Watched.{Watched}
use Rattle.witness_laws.specs.witness_spec.Steps.{Step, Learn, SendChallenge, Answer, AckIn, Audit, Begin}
use Rattle.witness_laws.specs.witness_spec.Steps.{File, PutBack}
use Rattle.witness_laws.specs.witness_spec.Steps.{Forward, Ask, Past}
use Rattle.witness_laws.specs.witness_spec.Limits.{MAX_LEARNED, MAX_ASKED}
use Rattle.witness_laws.specs.witness_spec.Pairs.{number_of, pair_of, same_pair, differ, is_shown, is_fork}
use Rattle.witness_laws.specs.witness_spec.Standing.{End, Stage, NoAudit, Wanted, Given, Out, end_of, shown}
use Rattle.witness_laws.specs.witness_spec.Standing.{is_exposed}
use Rattle.witness_laws.specs.witness_spec.Standing.{kept}
use Rattle.witness_laws.specs.witness_spec.Standing.{stage_of, begins, out_at, open_challenges}
use Rattle.witness_laws.specs.witness_spec.Standing.{without_evidence, outbox}
use Rattle.witness_laws.specs.witness_spec.Owing as owing
use Rattle.witness_laws.specs.witness_spec.Owing.{Owes, ask_reply, ask_up_to, last_in_reach, answer_reply}
use Rattle.witness_laws.specs.witness_spec.Owing.{back_reply}
use Rattle.witness_laws.specs.witness_spec.Owing.{challenge_reply, ack_reply, forward_reply, reply_told}
use Rattle.witness_laws.specs.witness_spec.Histories.{HoldSame}
use Rattle.witness_book_laws.specs.Books.{Book, exposed, book_shown, job_out_at, job_out}
use Rattle.witness_book_laws.specs.Books as books
use Rattle.witness_book_laws.specs.Replying.{book_reply, reply_to_audit, reply_to_begin, IsOut, BookOwes}
use Rattle.witness_book_laws.specs.Fitting.{IsBookOf}
use Rattle.witness_book_laws.proofs.Lists.{any_same, same_map, same_filter, max_same}

-- ---- an audit asks for the same, in whatever order the learned stand

reach_same : (v : LogVersion) (end : ℕ) (xs ys : List Authenticator) → HoldSame xs ys
    → last_in_reach v end xs ≡ last_in_reach v end ys
reach_same v end xs ys same =
    max_same (filter (λ n. nat_le n (end + MAX_ASKED)) (map (λ a. number_of v a) xs))
    (filter (λ n. nat_le n (end + MAX_ASKED)) (map (λ a. number_of v a) ys))
    (same_filter (λ n. nat_le n (end + MAX_ASKED)) (map (λ a. number_of v a) xs)
    (map (λ a. number_of v a) ys) (same_map (λ a. number_of v a) xs ys same))

ask_same : (v : LogVersion) (is : Bool) (start end waiting : ℕ) (xs ys : List Authenticator)
    → HoldSame xs ys → ask_reply v is start end waiting xs ≡ ask_reply v is start end waiting ys
ask_same v true start end waiting xs ys same = refl
ask_same v false start end waiting [] [] same = refl
ask_same v false start end waiting [] (y ∷ ys) same = absurd ((same y).1 (inl refl))
ask_same v false start end waiting (x ∷ xs) [] same = absurd ((same x).0 (inl refl))
ask_same v false start end waiting (x ∷ xs) (y ∷ ys) same =
    ap (ask_up_to start end waiting) (reach_same v end (x ∷ xs) (y ∷ ys) same)

make : ℕ → ℕ → End → ClosedParts → JobParts
make node number end c = record { node = node; number = number; state = end.state; segment = c }

module _ (w : Watched) (past : Past) (b : Book) (of : IsBookOf w past b)
    (is : exposed b ≡ is_exposed w past) (count : length b.learned ≡ length (kept w past)) where
  -- ---- each event

  -- what the book replies to an authenticator of a log of a version
  abbrev learn_in : Option KnownBase → LogVersion → Authenticator → Reply
  learn_in base v a =
      cond (exposed b) Noted (cond (is_below base (number_of v a)) (Refused BelowBase)
      (cond (is_shown (pair_of v a) (book_shown b)) Already
      (cond (not (is_fork (pair_of v a) (book_shown b)) && (nat_lt b.end.number (number_of v a)
      && nat_le MAX_LEARNED (length b.learned))) (Refused LearnedFull) Noted)))

  learns : (a : Authenticator) → owing.learn_reply w past a ≡ book_reply false b (Learn a)
  learns a =
      let v = w.member.log_version in
      let there = any_same (λ q. same_pair (pair_of v a) q) (book_shown b) (shown w past) of.stands.pairs in
      let fork = any_same (λ q. differ (pair_of v a) q) (book_shown b) (shown w past) of.stands.pairs in
      let room : owing.has_no_room w past a ≡ not (is_fork (pair_of v a) (book_shown b))
      && (nat_lt b.end.number (number_of v a) && nat_le MAX_LEARNED (length b.learned)) =
      ap (λ x. not x && (nat_lt (end_of w past).number (number_of v a)
      && nat_le MAX_LEARNED (length (kept w past)))) (sym fork)
      ∙ (ap (λ (e : End). not (is_fork (pair_of v a) (book_shown b)) && (nat_lt e.number (number_of v a)
      && nat_le MAX_LEARNED (length (kept w past)))) (sym of.stands.end)
      ∙ ap (λ n. not (is_fork (pair_of v a) (book_shown b)) && (nat_lt b.end.number (number_of v a)
      && nat_le MAX_LEARNED n)) (sym count)) in
      let low = is_below w.base (number_of v a) in
      ap (λ x. cond x Noted (cond low (Refused BelowBase) (cond (is_shown (pair_of v a) (shown w past)) Already
      (cond (owing.has_no_room w past a) (Refused LearnedFull) Noted)))) (sym is)
      ∙ (ap (λ x. cond (exposed b) Noted (cond low (Refused BelowBase) (cond x Already
      (cond (owing.has_no_room w past a) (Refused LearnedFull) Noted)))) (sym there)
      ∙ (ap (λ x. cond (exposed b) Noted (cond low (Refused BelowBase)
      (cond (is_shown (pair_of v a) (book_shown b)) Already (cond x (Refused LearnedFull) Noted)))) room
      ∙ (ap (λ u. learn_in w.base u a) (sym of.of_member.version)
      ∙ ap (λ o. learn_in o b.log_version a) (sym of.of_member.base))))

  asks : ask_reply w.member.log_version (is_exposed w past) (start_number w.base) (end_of w past).number
      (length (outbox w past)) (kept w past)
      ≡ ask_reply b.log_version (exposed b) (start_number b.base) b.end.number (length b.outbox) b.learned
  asks =
      let v = w.member.log_version in
      let n = start_number w.base in
      sym (ap₂ (λ u o. ask_reply u (exposed b) (start_number o) b.end.number (length b.outbox) b.learned)
      of.of_member.version of.of_member.base
      ∙ (ask_same v (exposed b) n b.end.number (length b.outbox) b.learned (kept w past) of.stands.learned
      ∙ (ap (λ x. ask_reply v x n b.end.number (length b.outbox) (kept w past)) is
      ∙ (ap (λ (e : End). ask_reply v (is_exposed w past) n e.number (length b.outbox)
      (kept w past)) of.stands.end
      ∙ ap (λ (xs : List Authenticator). ask_reply v (is_exposed w past) n (end_of w past).number
      (length xs)
      (kept w past)) of.stands.outbox))))

  audits : (s : Stage) → owing.audit_reply w past s ≡ reply_to_audit b s
  audits NoAudit = asks
  audits (Wanted first last) = refl
  audits (Given c) = refl
  audits (Out c) = refl

  -- the job of a segment with a number
  same_job : (n k : ℕ) (c : ClosedParts) → n ≡ k
      → make b.node n b.end c ≡ make w.member.node k (end_of w past) c
  same_job n k c e =
      ap (λ x. make x n b.end c) of.of_member.node
      ∙ (ap (λ x. make w.member.node x b.end c) e ∙ ap (λ x. make w.member.node k x c) of.stands.end)

  begun_job : (c : ClosedParts) → owing.next_job w past c ≡ books.job_of b (b.begun + 1) c
  unfolding make
  begun_job c = sym (same_job (b.begun + 1) (begins past + 1) c (ap (λ n. n + 1) of.stands.begun))

  begins_by : (s : Stage) → owing.begin_reply w past s ≡ reply_to_begin b s
  begins_by NoAudit = refl
  begins_by (Wanted first last) = refl
  begins_by (Given c) =
      ap (λ x. cond x (Refused NothingToAudit) (Job (owing.next_job w past c))) (sym is)
      ∙ ap (λ j. cond (exposed b) (Refused NothingToAudit) (Job j)) (begun_job c)
  begins_by (Out c) = refl

  out_by : (s : Stage) → job_out_at b s ≡ out_at w past s
  unfolding make
  out_by NoAudit = refl
  out_by (Wanted first last) = refl
  out_by (Given c) = refl
  out_by (Out c) = ap (λ j. Some j) (same_job b.begun (begins past) c of.stands.begun)

  -- the job that is out is the same
  pub same_out : job_out b ≡ out_at w past (stage_of past)
  same_out = out_by b.stage ∙ ap (out_at w past) of.stands.stage

  asked : (q : Question) → owing.ask w past q ≡ book_reply false b (Ask q)
  asked ItsIndication =
      ap (λ x. Told (cond x Exposed (without_evidence (open_challenges past)))) (sym is)
      ∙ ap (λ xs. Told (cond (exposed b) Exposed (without_evidence xs))) (sym of.stands.challenges)
  asked ItsChallenges = ap (λ xs. OpenList xs) (sym of.stands.challenges)
  asked ItsEvidence = ap (λ e. EvidenceIs e) (sym of.stands.evidence)

  -- ---- all events

  -- What is told of a step is what the book replies.
  pub same_told : (o : Bool) (step : Step) → reply_told o w past step ≡ book_reply o b step
  same_told o (Learn a) = learns a
  same_told o (SendChallenge e) = ap (λ xs. challenge_reply xs e) (sym of.stands.challenges)
  same_told o (Answer c) = ap (λ s. answer_reply s c) (sym of.stands.stage)
  same_told o (AckIn a) = ap (λ xs. ack_reply xs (acked_message a)) (sym of.stands.challenges)
  same_told o Audit = ap (owing.audit_reply w past) (sym of.stands.stage) ∙ audits b.stage
  same_told o Begin = ap (owing.begin_reply w past) (sym of.stands.stage) ∙ begins_by b.stage
  same_told o (File d) =
      ap (λ j. back_reply o j Filed (FileRefused WrongJob d) (FileRefused NoJob d)) (sym same_out)
  same_told o (PutBack j) =
      ap (λ k. back_reply o k Returned (PutBackRefused WrongJob j) (PutBackRefused NoJob j)) (sym same_out)
  same_told o Forward = ap forward_reply (sym of.stands.outbox)
  same_told o (Ask q) = asked q

  -- Whether the job that comes back is the one that is out is the same question.
  pub same_is_out : (step : Step) → owing.IsOut w past step ↔ IsOut b step
  same_is_out (Learn a) = (λ h. h, λ h. h)
  same_is_out (SendChallenge e) = (λ h. h, λ h. h)
  same_is_out (Answer c) = (λ h. h, λ h. h)
  same_is_out (AckIn a) = (λ h. h, λ h. h)
  same_is_out Audit = (λ h. h, λ h. h)
  same_is_out Begin = (λ h. h, λ h. h)
  same_is_out (File d) = (λ h. same_out ∙ h, λ h. sym same_out ∙ h)
  same_is_out (PutBack j) = (λ h. same_out ∙ h, λ h. sym same_out ∙ h)
  same_is_out Forward = (λ h. h, λ h. h)
  same_is_out (Ask q) = (λ h. h, λ h. h)

  -- The book owes what is owed after the steps, and nothing else.
  pub owes_same : (step : Step) (reply : Reply) → Owes w past step reply ↔ BookOwes b step reply
  owes_same step reply = (
    λ h. record {
      is_out = h.is_out;
      decides = (λ e. (same_is_out step).0 (h.decides.0 e), λ k. h.decides.1 ((same_is_out step).1 k));
      told = h.told ∙ same_told h.is_out step;
    },
    λ h. record {
      is_out = h.is_out;
      decides = (λ e. (same_is_out step).1 (h.decides.0 e), λ k. h.decides.1 ((same_is_out step).0 k));
      told = h.told ∙ sym (same_told h.is_out step);
    },
  )
