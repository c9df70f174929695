-- A step that exposes a node brings a charge that is accepted, and has a text; another brings none.
-- Serves: evidence_where_exposed, evidence_proves.
use Rattle.std.proofs.Common.{◌≡◌, ◌≢◌, ◌⊎◌, inl, inr, ℕ, ◌-◌, ◌^◌, ◌<◌, ◌≤◌, Bool, true, false, cond}
use Rattle.std.proofs.Common.{◌||◌, ◌==◌}
use Rattle.std.proofs.Common.{List, [], ◌∷◌, ◌++◌, Option, Some, None, refl, sym, ap, ap₂, subst, ◌∙◌}
use Rattle.std.proofs.Common.{arith, eqb-true, eq-eqb, not}
use Rattle.std.specs.Prelude.{is_some, option_map, option_and_then, IsTrue, ◌&&◌, ◌%◌}
use Rattle.std.proofs.lemmas.Bool.{and_parts, or_cases, or_right, true≢false, ltb-true, lt-ltb}
use Rattle.std.proofs.lemmas.Option.{same_Some}
use Rattle.xdr.specs.Item.{Fits, choice}
use Rattle.authenticator.specs.Numbers.{number_item, number_in}
use Rattle.authenticator.specs.Roster.{keeps_version, is_of_version, log_number}
use Rattle.authenticator.specs.declared.authenticator.Authenticator.{Authenticator}
use Rattle.authenticator.specs.declared.member.LogVersion.{LogVersion}
use Rattle.authenticator.specs.declared.member.LogVersion.TheVariants.{One, Two}
use Rattle.secure_log.specs.LogEntries.Chain.{zeros, IsAmong}
use Rattle.secure_log.specs.Versioned.{VersionedParts, ClosedParts, segment_marks, versioned_links}
use Rattle.secure_log.specs.Versioned.{versioned_value}
use Rattle.secure_log.proofs.OfLogEntries.Marks.{one_mark}
use Rattle.authenticator.specs.Signing.{is_same}
use Rattle.witness_spec.specs.replay_spec.Replay.{Verdict, Sound, Fault}
use Rattle.witness_spec.specs.replay_spec.Stepping.{ReplayFault}
use Rattle.authenticator.proofs.Signed.{is_false, list_same}
use Rattle.witness_spec.specs.evidence_spec.Showing.{ShowingParts, authenticator_showing}
use Rattle.witness_spec.specs.evidence_spec.Showing.{versioned_showing}
use Rattle.witness_spec.specs.evidence_spec.Base.{BaseParts, begun_item, begun_value}
use Rattle.witness_spec.specs.evidence_spec.Evidence.{Charge, Fork, AcceptsCharge, is_charge}
use Rattle.witness_spec.specs.evidence_spec.Evidence.{ForkParts, fork_item, fork_value, fork_charge}
use Rattle.witness_spec.specs.evidence_spec.Evidence.{charge_item, charge_value, charge_version}
use Rattle.witness_spec.specs.evidence_spec.Evidence.{replay_charge, replay_item, based_value}
use Rattle.witness_spec.specs.Events.{JobParts}
use Rattle.witness_spec.specs.Replies.{Reply}
use Rattle.witness_spec.specs.Starting.{start_number, is_below, start_showing}
use Rattle.witness_spec.specs.Watched.{Watched, IsInRoster}
use Rattle.witness_spec.specs.Steps.{Step, Past}
use Rattle.witness_spec.specs.Pairs.{Pair, pair_of, first_pair, last_of, differ, is_fork, has_fork}
use Rattle.witness_spec.specs.Pairs.{first_fork}
use Rattle.witness_spec.specs.Done.{noted, accepted, filed}
use Rattle.witness_spec.specs.Standing.{end_of, verdict_on, finds_fault, has_fault, pairs_noted}
use Rattle.witness_spec.specs.Standing.{pairs_accepted, shown}
use Rattle.witness_spec.specs.Standing.{is_exposed, is_fault, kept, all_accepted, Stage, NoAudit, Wanted}
use Rattle.witness_spec.specs.Standing.{Given, Out}
use Rattle.witness_spec.specs.Standing.{stage_of}
use Rattle.witness_spec.specs.Exposing.{showing_before, fork_of, new_fork, audited_with, replay_of, charge_of}
use Rattle.witness_spec.specs.Exposing.{new_charge, replay_from}
use Rattle.witness_spec.specs.Histories.{AreOwed}
use Rattle.witness_spec.specs.Laws.{HasTwoHashes, HasFaultyFile}
use Rattle.witness_laws.proofs.Exposing.{fork_at, of_file, exposed_is, is_exposed_told, exposed_why}
use Rattle.witness_laws.proofs.Exposing.{why_exposed}
use Rattle.witness_laws.proofs.Doing.{Did, Doing, Nothing, Notes, Accepts, Asks, Begins, Files, PutsBack}
use Rattle.witness_laws.proofs.Checked.{IsLearned, IsCheckedStep, AreChecked}
use Rattle.witness_laws.proofs.OfEvidence.Audits.{IsGoodSegment, good_given, are_numbered, last_is, IsAt, Stand}
use Rattle.witness_laws.proofs.OfEvidence.Marks.{mark_within}
use Rattle.witness_laws.proofs.OfEvidence.Starts.{first_at_start, not_below, start_shown}
use Rattle.witness_laws.proofs.OfEvidence.Before.{split, on_left, on_right, one_shown, IsGoodShowing}
use Rattle.witness_laws.proofs.OfEvidence.Before.{good_authenticator}
use Rattle.witness_laws.proofs.OfEvidence.Before.{good_segment, shown_before}

-- ---- forks between new pairs and old

record Forks (new old : List Pair) (n : ℕ) : Type 0 where
  one : List ℕ
  other : List ℕ
  one_new : IsAmong (n, one) new
  other_old : IsAmong (n, other) old
  differs : one ≢ other

record Other (n : ℕ) (x : List ℕ) (old : List Pair) : Type 0 where
  hash : List ℕ
  there : IsAmong (n, hash) old
  differs : x ≢ hash

other_of : (n : ℕ) (x : List ℕ) (old : List Pair) → is_fork (n, x) old ≡ true → Other n x old
other_of n x [] h = absurd (true≢false (sym h))
other_of n x (q ∷ old) h =
    by (or_cases (differ (n, x) q) (is_fork (n, x) old) h) (λ k. other_of n x old k)
  where
    by : (differ (n, x) q ≡ true) ⊎ (is_fork (n, x) old ≡ true) → (is_fork (n, x) old ≡ true → Other n x old)
        → Other n x (q ∷ old)
    by (inl d) rest =
        let both = and_parts (n == q.0) (not (is_same x q.1)) d in
        record {
          hash = q.1;
          there = inl (ap (λ (k : ℕ). (k, q.1)) (eqb-true n q.0 both.0));
          differs = λ e. true≢false (sym both.1 ∙ ap not (list_same x q.1 e));
        }
    by (inr k) rest =
        let g = rest k in record { hash = g.hash; there = inr g.there; differs = g.differs }

-- the number of the first fork is one
first_is : (new old : List Pair) (n : ℕ) → first_fork new old ≡ Some n → Forks new old n
first_is [] old n h = absurd (cc)
first_is (q ∷ new) old n h = by (is_fork q old) refl h (λ k. first_is new old n k)
  where
    by : (b : Bool) → is_fork q old ≡ b → ◌≡◌ {A = Option ℕ} (cond b (Some q.0) (first_fork new old)) (Some n)
        → (first_fork new old ≡ Some n → Forks new old n) → Forks (q ∷ new) old n
    by true e h rest =
        let number : q.0 ≡ n = same_Some q.0 n h in
        let g = other_of q.0 q.1 old e in
        record {
          one = q.1;
          other = g.hash;
          one_new = inl (ap (λ (k : ℕ). (k, q.1)) (sym number));
          other_old = subst (λ k. IsAmong (k, g.hash) old) number g.there;
          differs = g.differs;
        }
    by false e h rest =
        let g = rest h in
        record {
          one = g.one;
          other = g.other;
          one_new = inr g.one_new;
          other_old = g.other_old;
          differs =
              g.differs;
        }

-- where there is no first one there is none
none_first : (new old : List Pair) (q : Pair) → first_fork new old ≡ None → IsAmong q new
    → is_fork q old ≡ false
none_first [] old q h i = absurd i
none_first (p ∷ new) old q h i = by (is_fork p old) refl h i (λ k j. none_first new old q k j)
  where
    by : (b : Bool) → is_fork p old ≡ b → ◌≡◌ {A = Option ℕ} (cond b (Some p.0) (first_fork new old)) None
        → (q ≡ p) ⊎ IsAmong q new → (first_fork new old ≡ None → IsAmong q new → is_fork q old ≡ false)
        → is_fork q old ≡ false
    by true e h i rest = absurd (cc)
    by false e h (inl same) rest = ap (λ r. is_fork r old) same ∙ e
    by false e h (inr i) rest = rest h i

-- ---- numbers

zero_fits : Fits number_item 0
zero_fits = (omega arith, refl)

-- a number below one that fits does
pub lower_fits : (n k : ℕ) → n ≤ k → Fits number_item k → Fits number_item n
lower_fits n k h fits =
    let small : k < 2 ^ 64 - 1 = ltb-true k (2 ^ 64 - 1) fits.1 in
    (omega (arith, h, fits.0), lt-ltb n (2 ^ 64 - 1) (omega (arith, h, small)))

number_fits : (v : LogVersion) (word : ℕ) → Fits number_item word → Fits number_item (number_in v word)
number_fits One word h = h
number_fits Two word h = (omega arith, lt-ltb (word % 2 ^ 32) (2 ^ 64 - 1) (omega arith))

-- ---- charges

-- a fork has a text as a charge where it has one by itself
fork_fits : (v : LogVersion) (f : ForkParts) → Fits (fork_item v) (fork_value v f)
    → Fits (choice is_charge charge_item) (fork_charge v f)
fork_fits One f h = (omega arith, refl, h)
fork_fits Two f h = (omega arith, refl, h)

-- so has a replay
pub replay_fits : (v : LogVersion) (s : VersionedParts) → Fits (replay_item v) (versioned_value v s)
    → Fits (choice is_charge charge_item) (replay_charge v s)
replay_fits One s h = (omega arith, refl, h)
replay_fits Two s h = (omega arith, refl, h)

-- and a replay from a base, where both have one
pub based_fits : (v : LogVersion) (b : BaseParts) (s : VersionedParts) → Fits (begun_item v) (begun_value v b)
    → Fits (replay_item v) (versioned_value v s)
    → Fits (choice is_charge charge_item) (5, based_value v b s)
based_fits One b s g h = (omega arith, refl, (omega arith, refl, (g, h)))
based_fits Two b s g h = (omega arith, refl, (omega arith, refl, (g, h)))

-- it is accepted against the node, and has a text with it
pub record IsGoodCharge (w : Watched) (g : Charge) : Type 0 where
  -- the node's number has 32 bits
  pub small : w.member.node < 2 ^ 32
  -- its log is of the version of what is shown of it
  pub version : IsTrue (keeps_version w.roster w.member.node (charge_version g))
  -- the charge is accepted
  pub accepted : AcceptsCharge w.roster w.member.node g
  -- the charge has a text
  pub text : Fits (choice is_charge charge_item) (charge_value g)

-- a step exposes with a charge, or does neither
pub data Charging (w : Watched) (past : Past) (p : Step × Reply) : Type 0 where
  Uncharged : new_charge w past p.0 p.1 ≡ None → is_exposed w (p ∷ past) ≡ false → Charging w past p
  Charged : (g : Charge) → new_charge w past p.0 p.1 ≡ Some g → is_exposed w (p ∷ past) ≡ true
      → IsGoodCharge w g → Charging w past p

-- what is shown anew: a showing with its pairs, of one hash at each number
record IsNew (w : Watched) (new : ShowingParts) (ps : List Pair) : Type 0 where
  good : IsGoodShowing w new ps
  one : (n : ℕ) (x y : List ℕ) → IsAmong (n, x) ps → IsAmong (n, y) ps → x ≡ y
  few : (n : ℕ) (x : List ℕ) → IsAmong (n, x) ps → Fits number_item n
  above : (n : ℕ) (x : List ℕ) → IsAmong (n, x) ps → is_below w.base n ≡ false

new_authenticator : (w : Watched) (a : Authenticator) → IsLearned w a
    → is_below w.base (number_in w.member.log_version a.word) ≡ false
    → IsNew w (authenticator_showing w.member.log_version a) (pair_of w.member.log_version a ∷ [])
new_authenticator w a good above = record {
  good = good_authenticator w a good;
  one = λ n x y i j. its x n i ∙ sym (its y n j);
  few = λ n x i. number n x i;
  above = λ n x i. elim i [
    | inl e ↦ ap (is_below w.base) (ap (λ (q : Pair). q.0) e) ∙ above
    | inr j ↦ absurd j
  ];
}
  where
    its : (x : List ℕ) (n : ℕ) → IsAmong (n, x) (pair_of w.member.log_version a ∷ []) → x ≡ a.hash
    its x n (inl e) = ap (λ (q : Pair). q.1) e
    its x n (inr i) = absurd i

    number : (n : ℕ) (x : List ℕ) → IsAmong (n, x) (pair_of w.member.log_version a ∷ [])
        → Fits number_item n
    number n x (inl e) =
        subst (Fits number_item) (sym (ap (λ (q : Pair). q.0) e))
        (number_fits w.member.log_version a.word good.text.1.0)
    number n x (inr i) = absurd i

new_segment : (w : Watched) (s : VersionedParts) → IsInRoster w → IsGoodSegment w s
    → start_number w.base ≤ s.first - 1 → IsNew w (versioned_showing s) (segment_marks s)
new_segment w s is good low =
    let links = versioned_links s in
    record {
      good = good_segment w s is good;
      one = λ n x y i j. one_mark (s.first - 1) s.opening links n x y (are_numbered s) i j;
      few = λ n x i.
          lower_fits n (last_of s)
          (omega (
            arith,
            (mark_within (s.first - 1) s.opening links n x (are_numbered s) i).1,
            last_is w s good,
          )) (number_fits s.log_version s.closing.word good.fits.text.1.1.1.1.1.0);
      above = λ n x i.
          not_below w.roster w.member w.base is.base n
          (omega (arith, low, (mark_within (s.first - 1) s.opening links n x (are_numbered s) i).0));
    }

-- the pair before the first entry is always among those that were shown
pub first_shown : (w : Watched) (past : Past) → IsAmong first_pair (shown w past)
first_shown w past = start_shown w past first_pair (first_at_start w.base)

-- a member's log is of the version that the roster gives it
pub its_version : (w : Watched) → IsInRoster w
    → IsTrue (keeps_version w.roster w.member.node w.member.log_version)
its_version w is =
    ap (is_of_version w.member.log_version) is.is_member
    ∙ eq-eqb (log_number w.member.log_version) (log_number w.member.log_version) refl

module _ (w : Watched) (past : Past) (p : Step × Reply) (member : IsInRoster w) (owed : AreOwed w past)
    (checked : AreChecked w past) (stand : Stand w past) (e : is_exposed w past ≡ false) where
  -- ---- a fork

  -- the charge of a fork at 0
  at_zero : (new : ShowingParts) (ps : List Pair) → IsNew w new ps → Forks ps (shown w past) 0
      → IsGoodCharge w (Fork (record { log_version = w.member.log_version; at = 0; a = new; b = None }))
  at_zero new ps is f =
      let zero_is : f.other ≡ zeros =
      one_shown w past e 0 f.other zeros f.other_old (first_shown w past) in
      record {
        small = omega (arith, is.good.shows.text.0, is.good.node);
        version = its_version w member;
        accepted = record {
          a_node = is.good.node;
          closed = is.good.shows.closed;
          hash = f.one;
          shown = subst (IsAmong (0, f.one)) (sym is.good.shows.is) f.one_new;
          differs = λ h. f.differs (h ∙ sym zero_is);
        };
        text = fork_fits w.member.log_version
            (record { log_version = w.member.log_version; at = 0; a = new; b = None })
            (zero_fits, (is.good.shows.text, tt));
      }

  -- the charge of a fork after 0, with what showed the other hash
  at_number : (n : ℕ) (new old : ShowingParts) (ps qs : List Pair) → IsNew w new ps
      → IsGoodShowing w old qs → (f : Forks ps (shown w past) n) → IsAmong (n, f.other) qs
      → IsGoodCharge w (Fork (record { log_version = w.member.log_version; at = n; a = old; b = Some new }))
  at_number n new old ps qs is before f there = record {
    small = omega (arith, is.good.shows.text.0, is.good.node);
    version = its_version w member;
    accepted = record {
      a_node = before.node;
      b_node = is.good.node;
      a_closed = before.shows.closed;
      b_closed = is.good.shows.closed;
      one = f.other;
      other = f.one;
      one_shown = subst (IsAmong (n, f.other)) (sym before.shows.is) there;
      other_shown = subst (IsAmong (n, f.one)) (sym is.good.shows.is) f.one_new;
      differ = λ h. f.differs (sym h);
    };
    text = fork_fits w.member.log_version
        (record { log_version = w.member.log_version; at = n; a = old; b = Some new })
        (is.few n f.one f.one_new, (before.shows.text, is.good.shows.text));
  }

  -- new pairs of a showing, as they are shown after the step, and charged
  record ShowsNew (new : ShowingParts) (ps : List Pair) : Type 0 where
    is : IsNew w new ps
    shown_is : shown w (p ∷ past) ≡ ps ++ shown w past
    fault_is : has_fault w (p ∷ past) ≡ has_fault w past
    charge_is : new_charge w past p.0 p.1 ≡ new_fork w past new ps

  not_faulty : has_fault w past ≡ true → ⊥
  not_faulty h = true≢false (sym (or_right (has_fork (shown w past)) (has_fault w past) h) ∙ e)

  -- where no new pair forks, no number has two hashes
  none_exposes : (new : ShowingParts) (ps : List Pair) → ShowsNew new ps
      → first_fork ps (shown w past) ≡ None
      → is_exposed w (p ∷ past) ≡ true → ⊥
  none_exposes new ps s none h = by (exposed_why w (p ∷ past) (is_exposed_told w (p ∷ past) h))
    where
      apart : (n : ℕ) (x y : List ℕ) → x ≢ y → IsAmong (n, x) ps → IsAmong (n, y) (shown w past) → ⊥
      apart n x y d i j =
          true≢false (sym (fork_at n x y (shown w past) d j)
          ∙ none_first ps (shown w past) (n, x) none i)

      two : (n : ℕ) (x y : List ℕ) → x ≢ y → IsAmong (n, x) ps ⊎ IsAmong (n, x) (shown w past)
          → IsAmong (n, y) ps ⊎ IsAmong (n, y) (shown w past) → ⊥
      two n x y d (inl i) (inl j) = d (s.is.one n x y i j)
      two n x y d (inl i) (inr j) = apart n x y d i j
      two n x y d (inr i) (inl j) = apart n y x (λ k. d (sym k)) j i
      two n x y d (inr i) (inr j) = d (one_shown w past e n x y i j)

      by : HasTwoHashes (shown w (p ∷ past)) ⊎ HasFaultyFile w (p ∷ past) → ⊥
      by (inl g) =
          two g.number g.one g.other g.differ
          (split (g.number, g.one) ps (shown w past)
          (subst (IsAmong (g.number, g.one)) s.shown_is g.one_shown))
          (split (g.number, g.other) ps (shown w past)
          (subst (IsAmong (g.number, g.other)) s.shown_is g.other_shown))
      by (inr g) = not_faulty (sym s.fault_is ∙ of_file w (p ∷ past) g)

  -- where one forks, it has
  fork_exposes : (new : ShowingParts) (ps : List Pair) (n : ℕ) → ShowsNew new ps
      → Forks ps (shown w past) n
      → is_exposed w (p ∷ past) ≡ true
  fork_exposes new ps n s f =
      let two : HasTwoHashes (shown w (p ∷ past)) = record {
        number = n;
        one = f.one;
        other = f.other;
        one_shown = subst (IsAmong (n, f.one)) (sym s.shown_is)
            (on_left (n, f.one) ps (shown w past) f.one_new);
        other_shown = subst (IsAmong (n, f.other)) (sym s.shown_is)
            (on_right (n, f.other) ps (shown w past) f.other_old);
        differ = f.differs;
      } in exposed_is w (p ∷ past) (why_exposed w (p ∷ past) (inl two))

  -- the fork of a new showing at a number, with what is kept
  abbrev fork_with : ShowingParts → (number : ℕ) → Option Charge
  fork_with new = fork_of w.base w.member.log_version (kept w past) (all_accepted past) new

  charged_at : (new : ShowingParts) (ps : List Pair) (n : ℕ) (b : Bool) → ShowsNew new ps
      → first_fork ps (shown w past) ≡ Some n → ((n == 0) && not (is_some (start_showing w.base 0))) ≡ b
      → Charging w past p
  charged_at new ps n true s is z =
      let f = first_is ps (shown w past) n is in
      let v = w.member.log_version in
      let zero_is : n ≡ 0 = eqb-true n 0 (and_parts (n == 0) (not (is_some (start_showing w.base 0))) z).0 in
      Charged (Fork (record { log_version = v; at = 0; a = new; b = None }))
      (s.charge_is ∙ (ap (option_and_then (fork_with new)) is
      ∙ ap (λ b. cond b (Some (Fork (record { log_version = v; at = 0; a = new; b = None })))
      (option_map (λ x. Fork (record { log_version = v; at = n; a = x; b = Some new }))
      (showing_before w.base v (kept w past) (all_accepted past) n))) z))
      (fork_exposes new ps n s f) (at_zero new ps s.is (subst (Forks ps (shown w past)) zero_is f))
  charged_at new ps n false s is z =
      let f = first_is ps (shown w past) n is in
      let old = shown_before w past n f.other member owed checked stand e (s.is.above n f.one f.one_new) z
      f.other_old in
      let v = w.member.log_version in
      Charged (Fork (record { log_version = v; at = n; a = old.showing; b = Some new }))
      (s.charge_is ∙ (ap (option_and_then (fork_with new)) is
      ∙ (ap (λ b. cond b (Some (Fork (record { log_version = v; at = 0; a = new; b = None })))
      (option_map (λ x. Fork (record { log_version = v; at = n; a = x; b = Some new }))
      (showing_before w.base v (kept w past) (all_accepted past) n))) z
      ∙ ap (option_map (λ x. Fork (record { log_version = v; at = n; a = x; b = Some new }))) old.is)))
      (fork_exposes new ps n s f) (at_number n new old.showing ps old.ps s.is old.good f old.there)

  shows_new : (new : ShowingParts) (ps : List Pair) (o : Option ℕ) → ShowsNew new ps
      → first_fork ps (shown w past) ≡ o → Charging w past p
  shows_new new ps None s is =
      Uncharged (s.charge_is ∙ ap (option_and_then (fork_with new)) is)
      (is_false (is_exposed w (p ∷ past)) (none_exposes new ps s is))
  shows_new new ps (Some n) s is =
      charged_at new ps n ((n == 0) && not (is_some (start_showing w.base 0))) s is refl

  -- ---- what a step does

  shown_by : (a : Option Authenticator) (c : Option ClosedParts) → noted p.0 p.1 ≡ a
      → accepted p.0 p.1 ≡ c
      → shown w (p ∷ past)
      ≡ pairs_noted w.member.log_version false a ++ (pairs_accepted c ++ shown w past)
  shown_by a c is_a is_c =
      let v = w.member.log_version in
      ap (λ b. pairs_noted v b (noted p.0 p.1) ++ (pairs_accepted (accepted p.0 p.1) ++ shown w past)) e
      ∙ (ap (λ x. pairs_noted v false x ++ (pairs_accepted (accepted p.0 p.1) ++ shown w past)) is_a
      ∙ ap (λ x. pairs_noted v false a ++ (pairs_accepted x ++ shown w past)) is_c)

  fault_by : (j : Option JobParts) → filed p.0 p.1 ≡ j
      → has_fault w (p ∷ past) ≡ (finds_fault w.roster (end_of w past).state j || has_fault w past)
  fault_by j is = ap (λ x. finds_fault w.roster (end_of w past).state x || has_fault w past) is

  charge_by : (a : Option Authenticator) (c : Option ClosedParts) (j : Option JobParts)
      → noted p.0 p.1 ≡ a
      → accepted p.0 p.1 ≡ c → filed p.0 p.1 ≡ j → new_charge w past p.0 p.1 ≡ charge_of w past a c j
  charge_by a c j is_a is_c is_j =
      ap (λ x. charge_of w past x (accepted p.0 p.1) (filed p.0 p.1)) is_a
      ∙ (ap (λ x. charge_of w past a x (filed p.0 p.1)) is_c ∙ ap (charge_of w past a c) is_j)

  -- a step that shows nothing and files nothing
  shows_nothing : (to : Stage) → Did past p None None None to → Charging w past p
  shows_nothing to did =
      Uncharged (charge_by None None None did.notes did.accepts did.files)
      (ap₂ (λ ps b. has_fork ps || b) (shown_by None None did.notes did.accepts) (fault_by None did.files)
      ∙ e)

  -- a replay's verdict
  files : (j : JobParts) (v : Verdict) → Did past p None None (Some j) NoAudit
      → verdict_on w.roster (end_of w past).state j ≡ v
      → ((fault : ReplayFault) (number : ℕ) → v ≡ Fault fault number
      → IsGoodCharge w (replay_from w.base (audited_with w past j.segment.segment))) → Charging w past p
  files j (Sound t found) did is good =
      Uncharged
      (charge_by None None (Some j) did.notes did.accepts did.files
      ∙ ap (replay_of w past j.segment.segment) is)
      (ap₂ (λ ps b. has_fork ps || b) (shown_by None None did.notes did.accepts)
      (fault_by (Some j) did.files ∙ ap (λ v. is_fault v || has_fault w past) is) ∙ e)
  files j (Fault fault number) did is good =
      Charged (replay_from w.base (audited_with w past j.segment.segment))
      (charge_by None None (Some j) did.notes did.accepts did.files
      ∙ ap (replay_of w past j.segment.segment) is)
      (or_right (has_fork (shown w (p ∷ past))) (has_fault w (p ∷ past))
      (fault_by (Some j) did.files ∙ ap (λ v. is_fault v || has_fault w past) is))
      (good fault number refl)

  -- Each step exposes with a charge, or does neither.
  pub charging : Doing w past p → IsCheckedStep w p.0
      → ((j : JobParts) (fault : ReplayFault) (number : ℕ) → stage_of past ≡ Out j.segment
      → verdict_on w.roster (end_of w past).state j ≡ Fault fault number
      → IsGoodCharge w (replay_from w.base (audited_with w past j.segment.segment))) → Charging w past p
  charging (Nothing did) c faulty = shows_nothing (stage_of past) did
  charging (Notes a is above did) c faulty =
      shows_new (authenticator_showing w.member.log_version a) (pair_of w.member.log_version a ∷ [])
      (first_fork (pair_of w.member.log_version a ∷ []) (shown w past))
      (record {
        is = new_authenticator w a (subst (IsCheckedStep w) is c) (above e);
        shown_is = shown_by (Some a) None did.notes did.accepts;
        fault_is = fault_by None did.files;
        charge_is = charge_by (Some a) None None did.notes did.accepts did.files;
      }) refl
  charging (Accepts d is wanted did) c faulty =
      shows_new (versioned_showing d.segment) (segment_marks d.segment)
      (first_fork (segment_marks d.segment) (shown w past))
      (record {
        is = new_segment w d.segment member (good_given w d (subst (IsCheckedStep w) is c))
            (omega (arith, (subst (IsAt w past) wanted stand.stage).0, stand.begun));
        shown_is = shown_by None (Some d) did.notes did.accepts;
        fault_is = fault_by None did.files;
        charge_is = charge_by None (Some d) None did.notes did.accepts did.files;
      }) refl
  charging (Asks first last is few did) c faulty = shows_nothing (Wanted first last) did
  charging (Begins d is did) c faulty = shows_nothing (Out d) did
  charging (PutsBack d is did) c faulty = shows_nothing (Given d) did
  charging (Files j is did) c faulty =
      files j (verdict_on w.roster (end_of w past).state j) did refl
      (λ fault number h. faulty j fault number is h)
