-- What stands after a node's own steps while its log is honest: all that was shown is of the log, and the end
-- lies in it, with the log's state there.
-- Serves: honest_is_never_exposed.
use Rattle.std.proofs.Common.{◌≡◌, inl, inr, ℕ, ◌+◌, ◌-◌, Bool, true, false, ◌||◌, List, [], ◌∷◌}
use Rattle.std.proofs.Common.{◌++◌, Option, Some, None, refl, sym, ap, ap₂, subst, ◌∙◌, arith}
use Rattle.std.specs.Prelude.{nat_le}
use Rattle.std.specs.List.{AllByRecursion, flat_map}
use Rattle.std.proofs.lemmas.Bool.{or_from}
use Rattle.xdr.specs.Item.{Fits}
use Rattle.authenticator.specs.declared.authenticator.Authenticator.{Authenticator}
use Rattle.authenticator.proofs.Members.{member_node}
use Rattle.secure_log.specs.LogEntries.Chain.{zeros, Logged, NoCollision, IsAmong, span}
use Rattle.secure_log.specs.declared.segment.TheConstants.{MAX_ENTRIES}
use Rattle.secure_log.specs.Log.{log_pairs}
use Rattle.secure_log.specs.Versioned.{VersionedParts, ClosedParts, FitsVersion, segment_marks}
use Rattle.secure_log.specs.Versioned.{versioned_value}
use Rattle.witness_spec.specs.evidence_spec.Laws.{BaseIsOfTheLog, Reached, IsNextIn}
use Rattle.witness_spec.specs.evidence_spec.Showing.{showing_marks}
use Rattle.witness_spec.proofs.evidence_spec.Reached.{reached_first, goes_on}
use Rattle.witness_spec.proofs.evidence_spec.Shown.{segment_in_log, segment_is_part, segment_opens}
use Rattle.secure_log.proofs.OfLogEntries.Pairs.{head_among}
use Rattle.secure_log.proofs.OfLogEntries.FewerTexts.{Within, fewer, left, right, both}
use Rattle.witness_spec.specs.state_spec.State.{State}
use Rattle.witness_spec.specs.replay_spec.Opening.{opening_of}
use Rattle.witness_spec.specs.replay_spec.Replay.{Sound}
use Rattle.witness_spec.specs.replay_spec.HonestLogs.{IsHonestLog}
use Rattle.witness_spec.specs.evidence_spec.Evidence.{replay_item}
use Rattle.witness_spec.specs.evidence_spec.Proving.{IsLogOf, IsUnforgedIn, log_links, marks_of}
use Rattle.witness_spec.specs.evidence_spec.Proving.{texts_of}
use Rattle.witness_spec.specs.evidence_spec.Proving.{versioned_texts}
use Rattle.witness_spec.specs.Events.{JobParts}
use Rattle.witness_spec.specs.Replies.{Reply}
use Rattle.witness_spec.specs.Starting.{KnownBase, IsBaseAt, start_number, start_state, start_pairs}
use Rattle.witness_spec.specs.Watched.{Watched, IsInRoster}
use Rattle.witness_spec.specs.Steps.{Step, Answer, Past}
use Rattle.witness_spec.specs.Pairs.{Pair, pair_of, first_pair, has_fork, last_of}
use Rattle.witness_spec.specs.Done.{noted, accepted}
use Rattle.witness_spec.specs.Standing.{End, end_of, end_after, moved_by, is_fault, finds_fault, has_fault}
use Rattle.witness_spec.specs.Standing.{verdict_on}
use Rattle.witness_spec.specs.Standing.{pairs_noted, pairs_accepted, shown, is_exposed, Stage, NoAudit}
use Rattle.witness_spec.specs.Standing.{Wanted, Given}
use Rattle.witness_spec.specs.Standing.{Out, stage_of}
use Rattle.witness_spec.specs.Histories.{AreOwed}
use Rattle.witness_spec.specs.Premises.{authenticators_in, texts_in, base_closings, base_texts}
use Rattle.witness_laws.proofs.Checked.{IsLearned, IsGiven, IsCheckedStep, AreChecked}
use Rattle.witness_laws.proofs.Doing.{Did, Doing, Nothing, Notes, Accepts, Asks, Begins, Files, PutsBack}
use Rattle.witness_laws.proofs.Doing.{doing}
use Rattle.witness_laws.proofs.OfAnswers.Closing.{was_among}
use Rattle.witness_laws.proofs.OfEvidence.Audits.{IsGoodSegment, good_given, its_log_version, last_is}
use Rattle.witness_laws.proofs.OfEvidence.Marks.{last_spans}
use Rattle.witness_laws.proofs.OfTrust.Pairs.{no_fork, among_parts, pair_is_mark}

-- a segment that has a text has one as audited entries too
audited_fits : (s : VersionedParts) → FitsVersion MAX_ENTRIES s
    → Fits (replay_item s.log_version) (versioned_value s.log_version s)
audited_fits s fits =
    let f = fits.text in
    (f.0, (f.1.0, (f.1.1.0, ((f.1.1.1.0.0, omega (arith, f.1.1.1.0.1), f.1.1.1.0.2), f.1.1.1.1))))

module _ (w : Watched) (member : IsInRoster w) (log : List Logged) (is : IsLogOf w.member.log_version log)
    (all : List (List ℕ)) (unlike : NoCollision all) (log_within : Within (texts_of log) all) where
  -- all of these pairs are marks of the log
  abbrev pub InLog : List Pair → Type 0
  InLog ps = (q : Pair) → IsAmong q ps → IsAmong q (marks_of log)

  -- the log has reached the end's state at its number
  abbrev pub IsReached : End → Type 0
  IsReached end = Reached w.roster log end.number end.state

  -- an audit is of the part that follows the end, and what was given for it is of the log
  abbrev pub StageFits : End → Stage → Type 0
  StageFits end NoAudit = Unit {0}
  StageFits end (Wanted first last) = first ≡ end.number + 1
  StageFits end (Given c) = IsNextIn log end.number c.segment
  StageFits end (Out c) = IsNextIn log end.number c.segment

  -- what stands after own steps: all that was shown is of the log, and the audit is on it
  pub record Trusted (past : Past) : Type 0 where
    -- all pairs that were shown are of the log
    pub shown_in : InLog (shown w past)
    -- no segment had a fault
    pub no_fault : has_fault w past ≡ false
    -- the audit's end lies in the log
    pub reached : IsReached (end_of w past)
    -- what is under way is the log's part after the end
    pub stage : StageFits (end_of w past) (stage_of past)

  -- none of these signatures of the node is forged
  abbrev pub AreUnforged : List Authenticator → Type 0
  AreUnforged = AllByRecursion (IsUnforgedIn w.member.log_version w.roster w.member.node log)

  -- ---- what is shown

  noted_in : (b : Bool) (a : Authenticator) → IsAmong (pair_of w.member.log_version a) (log_pairs log)
      → InLog (pairs_noted w.member.log_version b (Some a))
  noted_in true a i q j = absurd j
  noted_in false a i q (inl e) =
      subst (λ r. IsAmong r (marks_of log)) (sym e)
      (pair_is_mark 0 zeros (log_links log) (pair_of w.member.log_version a) i)
  noted_in false a i q (inr j) = absurd j

  joined_in : (xs ys : List Pair) → InLog xs → InLog ys → InLog (xs ++ ys)
  joined_in xs ys h k q i = elim (among_parts q xs ys i) [ inl a ↦ h q a | inr b ↦ k q b ]

  shown_is : (past : Past) (p : Step × Reply) (learned : Option Authenticator)
      (answer : Option ClosedParts)
      → noted p.0 p.1 ≡ learned → accepted p.0 p.1 ≡ answer
      → shown w (p ∷ past)
      ≡ pairs_noted w.member.log_version (is_exposed w past) learned
      ++ (pairs_accepted answer ++ shown w past)
  shown_is past p learned answer e f =
      ap₂ (λ n a. pairs_noted w.member.log_version (is_exposed w past) n
      ++ (pairs_accepted a ++ shown w past)) e f

  shown_on : (past : Past) (p : Step × Reply) (learned : Option Authenticator)
      (answer : Option ClosedParts)
      → noted p.0 p.1 ≡ learned → accepted p.0 p.1 ≡ answer
      → InLog (pairs_noted w.member.log_version (is_exposed w past) learned) → InLog (pairs_accepted answer)
      → InLog (shown w past) → InLog (shown w (p ∷ past))
  shown_on past p learned answer e f h k g q i =
      joined_in (pairs_noted w.member.log_version (is_exposed w past) learned)
      (pairs_accepted answer ++ shown w past) h
      (joined_in (pairs_accepted answer) (shown w past) k g) q
      (subst (IsAmong q) (shown_is past p learned answer e f) i)

  nothing_in : InLog []
  nothing_in q i = absurd i

  -- ---- a step that files nothing

  unfiled : (past : Past) (p : Step × Reply) (learned : Option Authenticator)
      (answer : Option ClosedParts) (to : Stage) → Did past p learned answer None to
      → InLog (pairs_noted w.member.log_version (is_exposed w past) learned) → InLog (pairs_accepted answer)
      → StageFits (end_of w past) to → Trusted past → Trusted (p ∷ past)
  unfiled past p learned answer to did h k fits g =
      let same : end_of w past ≡ end_of w (p ∷ past) =
      sym (ap (end_after w.roster (end_of w past)) did.files) in
      record {
        shown_in = shown_on past p learned answer did.notes did.accepts h k g.shown_in;
        no_fault = ap (λ j. finds_fault w.roster (end_of w past).state j || has_fault w past) did.files
            ∙ g.no_fault;
        reached = subst IsReached same g.reached;
        stage = subst (λ e. StageFits e (stage_of (p ∷ past))) same
            (subst (StageFits (end_of w past)) (sym did.stage) fits);
      }

  -- ---- a segment is accepted

  next_in : (end : End) (c : ClosedParts) → IsGiven w c
      → IsAmong (pair_of w.member.log_version c.segment.closing) (log_pairs log)
      → Within (texts_in (Answer c)) all → c.segment.first ≡ end.number + 1
      → IsNextIn log end.number c.segment × InLog (segment_marks c.segment)
  next_in end c given i within first =
      let s = c.segment in
      let good : IsGoodSegment w s = good_given w c given in
      let version : w.member.log_version ≡ s.log_version = sym (its_log_version w s member good) in
      let own : IsLogOf s.log_version log = subst (λ v. IsLogOf v log) version is in
      let closing : IsAmong (pair_of s.log_version s.closing) (log_pairs log) =
      subst (λ v. IsAmong (pair_of v s.closing) (log_pairs log)) version i in
      let fits = audited_fits s given.fits in
      let spans : last_of s ≡ s.first - 1 + span s.entries =
      last_is w s good ∙ last_spans (s.first - 1) s.entries in
      let texts = versioned_texts s in
      let apart =
      fewer (texts_of log ++ texts) all (both (texts_of log) texts all log_within within) unlike in
      let place : s.first - 1 ≡ end.number = omega (arith, first) in (
        record {
          first = first;
          last = omega (arith, spans, first);
          part = segment_is_part w.roster log s own fits given.closed closing apart;
          opening = subst (λ n. IsAmong (n, s.opening) (log_pairs log)) place
              (segment_opens w.roster log s own fits given.closed closing apart);
        },
        λ q j.
            segment_in_log w.roster log s own fits given.closed closing apart q.0 q.1 j,
      )

  -- ---- a segment is filed

  files_on : (past : Past) (p : Step × Reply) (j : JobParts) → stage_of past ≡ Out j.segment
      → Did past p None None (Some j) NoAudit → Trusted past → Trusted (p ∷ past)
  files_on past p j out did g =
      let end : End = end_of w past in
      let s = j.segment.segment in
      let f = goes_on w.roster log end.number end.state s g.reached
      (subst (StageFits end) out g.stage) in
      let verdict : verdict_on w.roster end.state j ≡ Sound f.after f.found = f.sound in
      let moved : end_of w (p ∷ past)
      ≡ record { number = last_of s; state = f.after } =
      ap (end_after w.roster end) did.files ∙ ap (moved_by end (last_of s)) verdict in
      record {
        shown_in = shown_on past p None None did.notes did.accepts nothing_in nothing_in g.shown_in;
        no_fault = ap (λ x. finds_fault w.roster end.state x || has_fault w past) did.files
            ∙ (ap (λ v. is_fault v || has_fault w past) verdict ∙ g.no_fault);
        reached = subst IsReached (sym moved) f.reached;
        stage = subst (StageFits (end_of w (p ∷ past))) (sym did.stage) tt;
      }

  -- ---- all steps

  one_step : (past : Past) (p : Step × Reply) → Doing w past p → IsCheckedStep w p.0
      → AreUnforged (authenticators_in p.0)
      → Within (texts_in p.0) all
      → Trusted past → Trusted (p ∷ past)
  one_step past p (Nothing did) checked unforged within g =
      unfiled past p None None (stage_of past) did nothing_in nothing_in g.stage g
  one_step past p (Notes a same above did) checked unforged within g =
      let learned : IsLearned w a = subst (IsCheckedStep w) same checked in
      let free =
      subst (λ s. AreUnforged (authenticators_in s)) same unforged in
      unfiled past p (Some a) None (stage_of past) did
      (noted_in (is_exposed w past) a (free.0 learned.node learned.signed)) nothing_in g.stage g
  one_step past p (Accepts c same wanted did) checked unforged within g =
      let given : IsGiven w c = subst (IsCheckedStep w) same checked in
      let free =
      subst (λ s. AreUnforged (authenticators_in s)) same unforged in
      let first : c.segment.first ≡ (end_of w past).number + 1 =
      subst (StageFits (end_of w past)) wanted g.stage in
      let next = next_in (end_of w past) c given (free.0 given.node given.closed.signed)
      (subst (λ s. Within (texts_in s) all) same within) first in
      unfiled past p None (Some c) (Given c) did nothing_in next.1 next.0 g
  one_step past p (Asks first last at few did) checked unforged within g =
      unfiled past p None None (Wanted first last) did nothing_in nothing_in at g
  one_step past p (Begins c at did) checked unforged within g =
      unfiled past p None None (Out c) did nothing_in nothing_in
      (subst (StageFits (end_of w past)) at g.stage) g
  one_step past p (PutsBack c at did) checked unforged within g =
      unfiled past p None None (Given c) did nothing_in nothing_in
      (subst (StageFits (end_of w past)) at g.stage) g
  one_step past p (Files j at did) checked unforged within g = files_on past p j at did g

  pub all_parts : {A : Type 0} (P : A → Type 0) (xs ys : List A) → AllByRecursion P (xs ++ ys)
      → AllByRecursion P xs × AllByRecursion P ys
  all_parts P [] ys h = (tt, h)
  all_parts P (x ∷ xs) ys h = let k = all_parts P xs ys h.1 in ((h.0, k.0), k.1)

  -- where the audit begins, the pairs that are shown are of the log, which has reached the state there
  abbrev pub BeginsInLog : Option KnownBase → Type 0
  BeginsInLog base =
      InLog (start_pairs base) × Reached w.roster log (start_number base) (start_state w.member base)

  first_in : IsAmong first_pair (marks_of log)
  first_in = pair_is_mark 0 zeros (log_links log) (0, zeros) (head_among 0 zeros (log_links log))

  -- so it is, with a base or without one, while the log is honest
  pub begins_in : BaseIsOfTheLog → (base : Option KnownBase) → IsBaseAt w.roster w.member base → (last : State)
      → (h : IsHonestLog w.roster (opening_of w.member) log last) → AreUnforged (base_closings base)
      → Within (base_texts base (opening_of w.member ∷ h.states)) all → BeginsInLog base
  begins_in law None known last h unforged within = (
    λ q i. elim i [
      | inl e ↦ subst (λ r. IsAmong r (marks_of log)) (sym e) first_in
      | inr j ↦ absurd j
    ],
    reached_first w.roster log (opening_of w.member) h.states h.honest,
  )
  begins_in law (Some b) known last h unforged within =
      let good = known.good in
      let closing = b.parts.showing.closing in
      let texts = base_texts (Some b) (opening_of w.member ∷ h.states) in
      let node : closing.node ≡ w.member.node =
      good.closed.node ∙ sym (member_node w.roster b.parts.showing.node w.member good.is_member) in
      let version : w.member.log_version ≡ b.parts.log_version = sym good.of_member.log_version in
      let there = subst (λ v. IsAmong (pair_of v closing) (log_pairs log)) version
      (unforged.0 node good.closed.signed) in
      let of_log = law w.roster log b.parts w.member b.state last (subst (λ v. IsLogOf v log) version is)
      known.text good h there
      (fewer (texts_of log ++ texts) all (both (texts_of log) texts all log_within within) unlike) in (
        λ q i. elim i [
          | inl e ↦ subst (λ r. IsAmong r (marks_of log)) (sym e) first_in
          | inr j ↦ of_log.1 q.0 q.1
              (was_among (λ (p : Pair). nat_le p.0 b.parts.at) q (showing_marks b.parts.showing) j)
        ],
        of_log.0,
      )

  trusted : (past : Past) → BeginsInLog w.base
      → AreOwed w past → AreChecked w past
      → AreUnforged (flat_map (λ p. authenticators_in p.0) past)
      → Within (flat_map (λ p. texts_in p.0) past) all → Trusted past
  trusted [] first owed checked unforged within =
      record { shown_in = first.0; no_fault = refl; reached = first.1; stage = tt }
  trusted (p ∷ past) first owed checked unforged within =
      let parts = all_parts (IsUnforgedIn w.member.log_version w.roster w.member.node log)
      (authenticators_in p.0)
      (flat_map (λ q. authenticators_in q.0) past) unforged in
      let texts = flat_map (λ (q : Step × Reply). texts_in q.0) past in
      one_step past p (doing w past p.0 p.1 owed.0) checked.0 parts.0
      (λ t i. within t (left (texts_in p.0) texts t i))
      (trusted past first owed.1 checked.1 parts.1
      (λ t i. within t (right (texts_in p.0) texts t i)))

  -- it isn't exposed
  pub not_exposed : (past : Past) → BeginsInLog w.base
      → AreOwed w past → AreChecked w past
      → AreUnforged (flat_map (λ p. authenticators_in p.0) past)
      → Within (flat_map (λ p. texts_in p.0) past) all → is_exposed w past ≡ false
  not_exposed past first owed checked unforged within =
      let g = trusted past first owed checked unforged within in
      or_from (has_fork (shown w past)) (has_fault w past)
      (no_fork log (shown w past) g.shown_in) g.no_fault
