-- What stands after own steps that were checked and owed: where the audit is, and that the accepted segments
-- hold all numbers up to the end.
-- Serves: evidence_where_exposed, evidence_proves.
use Rattle.std.proofs.Common.{◌≡◌, ◌⊎◌, inl, inr, ℕ, ◌+◌, ◌<◌, ◌≤◌, Bool, true, false, nat_lt, [], ◌∷◌, ◌++◌}
use Rattle.std.proofs.Common.{Option, Some, None, refl, sym, ap, subst, ◌∙◌, arith, eqb-true}
use Rattle.std.specs.Prelude.{◌-◌, IsTrue}
use Rattle.std.proofs.lemmas.Bool.{ltb-true, ltb-false}
use Rattle.authenticator.specs.Roster.{member_of, log_number, is_of_version}
use Rattle.secure_log.specs.LogEntries.Chain.{IsAmong}
use Rattle.secure_log.specs.LogEntries.Chain.{AreNumbered, last_number}
use Rattle.secure_log.specs.declared.segment.TheConstants.{MAX_ENTRIES}
use Rattle.secure_log.specs.Versioned.{VersionedParts, ClosedParts, FitsVersion, IsClosedIn}
use Rattle.secure_log.specs.Versioned.{is_whole_in, versioned_links, versioned_value}
use Rattle.secure_log.proofs.Gaps.{closing_number, logged_after, rise}
use Rattle.witness_spec.specs.Pairs.{last_of}
use Rattle.witness_spec.specs.replay_spec.Replay.{Verdict, Sound, Fault}
use Rattle.witness_spec.specs.Events.{JobParts}
use Rattle.witness_spec.specs.Replies.{Reply}
use Rattle.witness_spec.specs.Starting.{start_number}
use Rattle.witness_spec.specs.Watched.{Watched, IsInRoster}
use Rattle.witness_spec.specs.Steps.{Step, Past}
use Rattle.witness_spec.specs.evidence_spec.Evidence.{MAX_AUDITED}
use Rattle.witness_spec.specs.Done.{accepted, filed}
use Rattle.witness_spec.specs.Standing.{End, end_of, end_after, moved_by, verdict_on, Stage, NoAudit, Wanted}
use Rattle.witness_spec.specs.Standing.{Given}
use Rattle.witness_spec.specs.Standing.{Out, stage_after, stage_of, segment_of, all_accepted}
use Rattle.witness_spec.specs.Histories.{AreOwed}
use Rattle.witness_laws.proofs.Checked.{version_same, IsGiven, IsCheckedStep, AreChecked}
use Rattle.witness_laws.proofs.Doing.{Did, Doing, Nothing, Notes, Accepts, Asks, Begins, Files, PutsBack}
use Rattle.witness_laws.proofs.Doing.{doing}

-- ---- what holds

-- a segment of the node's log, with a text, closed by it
pub record IsGoodSegment (w : Watched) (s : VersionedParts) : Type 0 where
  -- it has a text
  pub fits : FitsVersion MAX_ENTRIES s
  -- with that it is whole
  pub whole : IsTrue (is_whole_in s.log_version (versioned_value s.log_version s))
  -- it is closed
  pub closed : IsClosedIn w.roster s
  -- its closing authenticator is of the node
  pub node : s.closing.node ≡ w.member.node

-- a segment that a checked answer gives is one of the node's, closed, with a text
pub good_given : (w : Watched) (c : ClosedParts) → IsGiven w c
    → IsGoodSegment w c.segment
good_given w c given =
    record { fits = given.fits; whole = given.whole; closed = given.closed; node = given.node }

-- where a segment is good, it is of a log of its member's version
pub its_log_version : (w : Watched) (s : VersionedParts) → IsInRoster w → IsGoodSegment w s
    → s.log_version ≡ w.member.log_version
its_log_version w s is good =
    let node : s.node ≡ w.member.node = sym good.closed.ends.node ∙ good.node in
    let told : is_of_version s.log_version (Some w.member) ≡ true =
    sym (ap (is_of_version s.log_version) (ap (member_of w.roster) node ∙ is.is_member)) ∙ good.closed.version in
    sym (version_same w.member.log_version s.log_version
    (eqb-true (log_number w.member.log_version) (log_number s.log_version) told))

-- its links are numbered after the number before its first
pub are_numbered : (s : VersionedParts) → AreNumbered (s.first - 1) (versioned_links s)
are_numbered s = logged_after (s.first - 1) s.entries

-- its last number is that of the last of them
pub last_is : (w : Watched) (s : VersionedParts) → IsGoodSegment w s
    → last_of s ≡ last_number (s.first - 1) (versioned_links s)
last_is w s good =
    closing_number s.log_version (s.first - 1) (versioned_links s) s.closing.word good.closed.ends.skips
    good.closed.ends.last

-- it is one before its first at least
pub last_low : (w : Watched) (s : VersionedParts) → IsGoodSegment w s → s.first ≤ last_of s + 1
last_low w s good =
    omega (
      arith,
      last_is w s good,
      rise (s.first - 1) (versioned_links s) (are_numbered s),
      good.closed.ends.first,
    )

-- a number lies in an accepted segment
pub record IsHeld (past : Past) (number : ℕ) : Type 0 where
  -- the segment
  pub segment : VersionedParts
  -- it was accepted
  pub among : IsAmong segment (all_accepted past)
  -- the number is not before its first
  pub from : segment.first ≤ number
  -- nor past its last
  pub to : number ≤ last_of segment

-- a segment that was accepted lies after the end
pub record IsNext (w : Watched) (past : Past) (c : ClosedParts) : Type 0 where
  -- it was accepted
  pub among : IsAmong c.segment (all_accepted past)
  -- its first number is the one after the end
  pub first : c.segment.first ≡ (end_of w past).number + 1
  -- its last number is one that may be audited
  pub last : last_of c.segment ≤ start_number w.base + MAX_AUDITED

-- an audit is of the part that follows the end
abbrev pub IsAt : Watched → Past → Stage → Type 0
IsAt w past NoAudit = Unit {0}
IsAt w past (Wanted first last) =
    (first ≡ (end_of w past).number + 1) × (last ≤ start_number w.base + MAX_AUDITED)
IsAt w past (Given c) = IsNext w past c
IsAt w past (Out c) = IsNext w past c

-- an accepted segment is good, and begins at the place after the end at most
pub record IsAfter (w : Watched) (past : Past) (s : VersionedParts) : Type 0 where
  -- it is good
  pub good : IsGoodSegment w s
  -- it begins at the place after the end at most
  pub first : s.first ≤ (end_of w past).number + 1

-- What stands after own steps: where the audit is, and that the accepted segments hold all from where it
-- began up to the end.
pub record Stand (w : Watched) (past : Past) : Type 0 where
  -- the audit is where its stage says
  pub stage : IsAt w past (stage_of past)
  -- each accepted segment is good, and leaves no gap
  pub segments : (s : VersionedParts) → IsAmong s (all_accepted past) → IsAfter w past s
  -- the end is where the audit began, or after it
  pub begun : start_number w.base ≤ (end_of w past).number
  -- each number from there up to the end lies in one
  pub held : (n : ℕ) → start_number w.base < n → n ≤ (end_of w past).number → IsHeld past n

-- ---- a step that files nothing

module _ (w : Watched) (past : Past) (p : Step × Reply) where
  -- it leaves the end
  pub end_stays : filed p.0 p.1 ≡ None → end_of w (p ∷ past) ≡ end_of w past
  end_stays h = ap (end_after w.roster (end_of w past)) h

  -- what was accepted stays so
  pub accepted_stays : (s : VersionedParts) → IsAmong s (all_accepted past)
      → IsAmong s (all_accepted (p ∷ past))
  accepted_stays s i = by (accepted p.0 p.1)
    where
      by : (o : Option ClosedParts) → IsAmong s (segment_of o ++ all_accepted past)
      by None = i
      by (Some c) = inr i

  held_stays : (n : ℕ) → IsHeld past n → IsHeld (p ∷ past) n
  held_stays n h =
      record { segment = h.segment; among = accepted_stays h.segment h.among; from = h.from; to = h.to }

  next_stays : (c : ClosedParts) → filed p.0 p.1 ≡ None → IsNext w past c → IsNext w (p ∷ past) c
  next_stays c h k = record {
    among = accepted_stays c.segment k.among;
    first = k.first ∙ ap (λ (e : End). e.number + 1) (sym (end_stays h));
    last = k.last;
  }

  at_stays : (s : Stage) → filed p.0 p.1 ≡ None → IsAt w past s → IsAt w (p ∷ past) s
  at_stays NoAudit h k = tt
  at_stays (Wanted first last) h k = (k.0 ∙ ap (λ (e : End). e.number + 1) (sym (end_stays h)), k.1)
  at_stays (Given c) h k = next_stays c h k
  at_stays (Out c) h k = next_stays c h k

  after_stays : (s : VersionedParts) → filed p.0 p.1 ≡ None → IsAfter w past s → IsAfter w (p ∷ past) s
  after_stays s h k = record {
    good = k.good;
    first = subst (λ (e : End). s.first ≤ e.number + 1) (sym (end_stays h)) k.first;
  }

  -- nothing is accepted: the segments are those of before
  same_accepted : (s : VersionedParts) → accepted p.0 p.1 ≡ None → IsAmong s (all_accepted (p ∷ past))
      → IsAmong s (all_accepted past)
  same_accepted s h i = subst (λ o. IsAmong s (segment_of o ++ all_accepted past)) h i

  begun_stays : filed p.0 p.1 ≡ None → start_number w.base ≤ (end_of w past).number
      → start_number w.base ≤ (end_of w (p ∷ past)).number
  begun_stays h k = subst (λ (e : End). start_number w.base ≤ e.number) (sym (end_stays h)) k

  numbers_stay : filed p.0 p.1 ≡ None
      → ((n : ℕ) → start_number w.base < n → n ≤ (end_of w past).number → IsHeld past n)
      → (n : ℕ) → start_number w.base < n → n ≤ (end_of w (p ∷ past)).number → IsHeld (p ∷ past) n
  numbers_stay h k n low high =
      held_stays n (k n low (subst (λ (e : End). n ≤ e.number) (end_stays h) high))

  -- the audit goes on, and nothing is accepted
  quiet : (to : Stage) → stage_after (stage_of past) p.0 p.1 ≡ to → accepted p.0 p.1 ≡ None
      → filed p.0 p.1 ≡ None → IsAt w past to → Stand w past → Stand w (p ∷ past)
  quiet to stage none unfiled at k = record {
    stage = subst (IsAt w (p ∷ past)) (sym stage) (at_stays to unfiled at);
    segments = λ s i. after_stays s unfiled (k.segments s (same_accepted s none i));
    begun = begun_stays unfiled k.begun;
    held = numbers_stay unfiled k.held;
  }

  -- a segment is accepted
  gives : (c : ClosedParts) → IsGoodSegment w c.segment
      → stage_of past ≡ Wanted c.segment.first (last_of c.segment)
      → Did past p None (Some c) None (Given c) → Stand w past → Stand w (p ∷ past)
  gives c good wanted did k =
      let at : IsAt w past (Wanted c.segment.first (last_of c.segment)) =
      subst (IsAt w past) wanted k.stage in
      let there : IsAmong c.segment (all_accepted (p ∷ past)) =
      subst (λ o. IsAmong c.segment (segment_of o ++ all_accepted past)) (sym did.accepts) (inl refl) in
      let same : (end_of w past).number ≡ (end_of w (p ∷ past)).number =
      ap (λ (e : End). e.number) (sym (end_stays did.files)) in
      let next : IsNext w (p ∷ past) c =
      record { among = there; first = at.0 ∙ ap (λ n. n + 1) same; last = at.1 } in
      record {
        stage = subst (IsAt w (p ∷ past)) (sym did.stage) next;
        segments = λ s i.
            by s (subst (λ o. IsAmong s (segment_of o ++ all_accepted past)) did.accepts i)
            (omega (arith, next.first));
        begun = begun_stays did.files k.begun;
        held = numbers_stay did.files k.held;
      }
    where
      by : (s : VersionedParts) → (s ≡ c.segment) ⊎ IsAmong s (all_accepted past)
          → c.segment.first ≤ (end_of w (p ∷ past)).number + 1 → IsAfter w (p ∷ past) s
      by s (inl is) low =
          subst (IsAfter w (p ∷ past)) (sym is) (record { good = good; first = low })
      by s (inr i) low = after_stays s did.files (k.segments s i)

  -- ---- a segment is filed

  moved_to : (j : JobParts) (v : Verdict) → verdict_on w.roster (end_of w past).state j ≡ v
      → filed p.0 p.1 ≡ Some j
      → end_of w (p ∷ past) ≡ moved_by (end_of w past) (last_of j.segment.segment) v
  moved_to j v is h =
      ap (end_after w.roster (end_of w past)) h
      ∙ ap (moved_by (end_of w past) (last_of j.segment.segment)) is

  moves : (j : JobParts) → IsNext w past j.segment → Did past p None None (Some j) NoAudit
      → Stand w past → (v : Verdict) → verdict_on w.roster (end_of w past).state j ≡ v → Stand w (p ∷ past)
  moves j next did k (Fault fault number) is =
      let same : end_of w (p ∷ past) ≡ end_of w past = moved_to j (Fault fault number) is did.files in
      record {
        stage = subst (IsAt w (p ∷ past)) (sym did.stage) tt;
        segments = λ s i.
            let b = k.segments s (same_accepted s did.accepts i) in
            record { good = b.good; first = subst (λ (e : End). s.first ≤ e.number + 1) (sym same) b.first };
        begun = subst (λ (e : End). start_number w.base ≤ e.number) (sym same) k.begun;
        held = λ n low high. held_stays n (k.held n low (subst (λ (e : End). n ≤ e.number) same high));
      }
  moves j next did k (Sound t found) is =
      let c = j.segment.segment in
      let good : IsGoodSegment w c = (k.segments c next.among).good in
      let same : (end_of w (p ∷ past)).number ≡ last_of c =
      ap (λ (e : End). e.number) (moved_to j (Sound t found) is did.files) in
      let more : (end_of w past).number ≤ last_of c = omega (arith, next.first, last_low w c good) in
      record {
        stage = subst (IsAt w (p ∷ past)) (sym did.stage) tt;
        segments = λ s i.
            let b = k.segments s (same_accepted s did.accepts i) in
            record { good = b.good; first = omega (arith, b.first, more, same) };
        begun = omega (arith, k.begun, more, same);
        held = λ n low high.
            by n (nat_lt (end_of w past).number n) refl low (omega (arith, high, same))
            (omega (arith, next.first));
      }
    where
      by : (n : ℕ) (b : Bool) → nat_lt (end_of w past).number n ≡ b → start_number w.base < n
          → n ≤ last_of j.segment.segment
          → j.segment.segment.first ≡ (end_of w past).number + 1 → IsHeld (p ∷ past) n
      by n true e low high first = record {
        segment = j.segment.segment;
        among = accepted_stays j.segment.segment next.among;
        from = omega (arith, first, ltb-true (end_of w past).number n e);
        to = high;
      }
      by n false e low high first =
          held_stays n (k.held n low (omega (arith, ltb-false (end_of w past).number n e)))

  -- ---- all steps

  stands_on : Doing w past p → IsCheckedStep w p.0 → Stand w past → Stand w (p ∷ past)
  stands_on (Nothing did) checked k = quiet (stage_of past) did.stage did.accepts did.files k.stage k
  stands_on (Notes a is above did) checked k = quiet (stage_of past) did.stage did.accepts did.files k.stage k
  stands_on (Accepts c is wanted did) checked k =
      gives c (good_given w c (subst (IsCheckedStep w) is checked)) wanted did k
  stands_on (Asks first last is few did) checked k =
      quiet (Wanted first last) did.stage did.accepts did.files (is, few.0) k
  stands_on (Begins c is did) checked k =
      quiet (Out c) did.stage did.accepts did.files (subst (IsAt w past) is k.stage) k
  stands_on (PutsBack c is did) checked k =
      quiet (Given c) did.stage did.accepts did.files (subst (IsAt w past) is k.stage) k
  stands_on (Files j is did) checked k =
      moves j (subst (IsAt w past) is k.stage) did k (verdict_on w.roster (end_of w past).state j) refl

at_first : (w : Watched) → Stand w []
at_first w = record {
  stage = tt;
  segments = λ s i. absurd i;
  begun = omega arith;
  held = λ n low high. absurd (omega (arith, low, high));
}

-- so it stands after all own steps that were checked and have the replies that are owed
pub stands : (w : Watched) (past : Past) → AreOwed w past → AreChecked w past
    → Stand w past
stands w [] owed checked = at_first w
stands w (p ∷ past) owed checked =
    stands_on w past p (doing w past p.0 p.1 owed.0) checked.0 (stands w past owed.1 checked.1)
