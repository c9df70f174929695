-- What is found in evidence tells whether it is accepted; and what closed showings show is found.
-- Serves: examine, find_in_two, find_in_one, replay_finding.
use Rattle.std.proofs.Common.{◌≡◌, ℕ, Bool, List, Option, Some, None, Result, Ok, Err, refl, sym, ap, subst}
use Rattle.std.proofs.Common.{◌∙◌, inl, inr}
use Rattle.std.specs.Prelude.{◌↔◌, IsFalse, IsTrue, IfOk}
use Rattle.std.proofs.lemmas.Bool.{true≢false}
use Rattle.authenticator.specs.declared.member.LogVersion.{LogVersion}
use Rattle.authenticator.specs.declared.member.Member.{Member}
use Rattle.authenticator.specs.Roster.{keeps_version}
use Rattle.secure_log.specs.LogEntries.Chain.{zeros}
use Rattle.authenticator.specs.Signed.{IsSignedIn}
use Rattle.secure_log.specs.Versioned.{EndsIn, VersionedParts}
use Rattle.replay.specs.replay_spec.Placed.{places_in}
use Rattle.replay.specs.replay_spec.Opening.{opening_of}
use Rattle.replay.specs.replay_spec.state_spec.State.{State}
use Rattle.replay.specs.replay_spec.state_spec.StateText.{IsStateText}
use Rattle.replay.specs.replay_spec.Replay.{verdict_of}
use Rattle.replay.specs.Verdicts.{IsOutcome}
use Rattle.replay.specs.Faults.{fault_in}
use Rattle.replay.specs.declared.outcome.Outcome.{Outcome}
use Rattle.replay.specs.declared.outcome.Outcome.TheVariants as outcomes
use Rattle.secure_log.specs.declared.mark.Mark.{Mark}
use Rattle.evidence_showings.specs.evidence_spec.Base.{BaseParts, IsGoodBase}
use Rattle.evidence_showings.specs.evidence_spec.Showing.{ShowingParts, Shows}
use Rattle.evidence_showings.specs.evidence_spec.Evidence.{Charge, Fork, Replay, Based, EvidenceParts}
use Rattle.evidence_showings.specs.evidence_spec.Evidence.{AcceptsBased, AcceptsFork}
use Rattle.evidence_showings.specs.evidence_spec.Evidence.{AcceptsReplay, AcceptsCharge, Accepts}
use Rattle.evidence_showings.specs.evidence_spec.Evidence.{charge_version}
use Rattle.challenge.specs.declared.finding.Finding.{Finding}
use Rattle.challenge.specs.declared.finding.Finding.TheVariants as found
use Rattle.challenge.specs.declared.finding.NotAccepted.{NotAccepted}
use Rattle.challenge.specs.declared.finding.NotAccepted.TheVariants as reasons
use Rattle.challenge.specs.Findings.{is_accepted, finding_in, AcceptsMarks, AcceptsTwo, AcceptsOne}
use Rattle.challenge.specs.Findings.{ShowingLacks, HasNoTwo, ForkLacks, LogLacks, IsClosedOf, IsAudited}
use Rattle.challenge.specs.Findings.{Finds, FindsInFork, FindsInLog, FindsInBased, FindsInCharge}
use Rattle.challenge.specs.Findings.{IsClosedAfter, IsClosedBase}
use Rattle.challenge.specs.Findings.{BasedLacks, First, FollowsOn, HasFaultAfter, IsGood, nothing_more}
use Rattle.evidence_showings.specs.Showings.{Ends}

-- ---- what lacks something isn't accepted

-- what is false isn't true
pub not_true : {b : Bool} → IsFalse b → ¬ IsTrue b
not_true isnt is = true≢false (sym is ∙ isnt)

-- a closed showing of a node lacks nothing
pub showing_lacks : (v : LogVersion) (ms : List Member) (node : ℕ) (s : ShowingParts) (reason : NotAccepted)
    → IsClosedOf v ms node s → ShowingLacks v ms node s reason → ⊥
showing_lacks v ms node s reasons.AnotherNode closed lack = lack closed.of_node
showing_lacks v ms node s reasons.OtherVersion closed lack = not_true lack.1 closed.version
showing_lacks v ms node s reasons.NotClosed closed lack =
    let c = closed.closed in
    lack.2 (record { first = c.first; skips = c.skips; node = c.node; last = c.last; hash = c.hash })
showing_lacks v ms node s reasons.NotSigned closed lack = lack.3 closed.closed.signed
showing_lacks v ms node s reasons.NotFromStart closed lack = lack
showing_lacks v ms node s reasons.NoGoodBase closed lack = lack
showing_lacks v ms node s reasons.NotFromBase closed lack = lack
showing_lacks v ms node s reasons.NoTwoMarks closed lack = lack
showing_lacks v ms node s reasons.NoFault closed lack = lack

-- a fork that is accepted lacks nothing
fork_lacks : (v : LogVersion) (ms : List Member) (node at : ℕ) (a : ShowingParts) (b : Option ShowingParts)
    (reason : NotAccepted) → ForkLacks v ms node at a b reason → IsTrue (keeps_version ms node v)
    → AcceptsFork v ms node at a b → ⊥
fork_lacks v ms node at a (Some b) reason (inl lack) version accepted =
    showing_lacks v ms node a reason
    (record { of_node = accepted.a_node; version = version; closed = accepted.a_closed }) lack
fork_lacks v ms node at a (Some b) reason (inr (closed, inl lack)) version accepted =
    showing_lacks v ms node b reason
    (record { of_node = accepted.b_node; version = version; closed = accepted.b_closed }) lack
fork_lacks v ms node at a (Some b) reason (inr (closed, inr lack)) version accepted =
    accepted.differ (lack.2 accepted.one accepted.other accepted.one_shown accepted.other_shown)
fork_lacks v ms node at a None reason (inl lack) version accepted =
    showing_lacks v ms node a reason
    (record { of_node = accepted.a_node; version = version; closed = accepted.closed }) lack
fork_lacks v ms node at a None reason (inr (closed, lack)) version accepted =
    accepted.differs (lack.1 accepted.hash accepted.shown)

-- a log that is accepted is of the version that the roster gives the node
log_version : (ms : List Member) (node : ℕ) (s : VersionedParts) → AcceptsReplay ms node s
    → IsTrue (keeps_version ms node s.log_version)
log_version ms node s accepted =
    subst (λ n. IsTrue (keeps_version ms n s.log_version)) accepted.of_node accepted.closed.version

-- a log that is accepted lacks nothing
pub log_lacks : (ms : List Member) (node : ℕ) (s : VersionedParts) (reason : NotAccepted)
    → LogLacks ms node s reason → AcceptsReplay ms node s → ⊥
log_lacks ms node s reasons.AnotherNode lack accepted = lack accepted.of_node
log_lacks ms node s reasons.OtherVersion lack accepted = not_true lack.1 (log_version ms node s accepted)
log_lacks ms node s reasons.NotFromStart lack accepted =
    lack.2 (record { first = accepted.first; opening = accepted.opening })
log_lacks ms node s reasons.NotClosed lack accepted = lack.3 accepted.closed.ends
log_lacks ms node s reasons.NotSigned lack accepted = lack.4 accepted.closed.signed
log_lacks ms node s reasons.NoGoodBase lack accepted = lack
log_lacks ms node s reasons.NotFromBase lack accepted = lack
log_lacks ms node s reasons.NoTwoMarks lack accepted = lack
log_lacks ms node s reasons.NoFault lack accepted =
    let same : Some lack.member ≡ Some accepted.member = sym lack.audited.is_member ∙ accepted.is_member in
    let one : lack.member ≡ accepted.member = cc in
    lack.none accepted.fault accepted.number
    (ap (λ m. verdict_of ms (opening_of m) (places_in s)) one ∙ accepted.found)

-- what is asked first and is there isn't lacking
behind : (asked : Type 0) (name : NotAccepted) (more : NotAccepted → Type 0) (reason : NotAccepted) → asked
    → (more reason → ⊥) → First asked name more reason → ⊥
behind asked name more reason there none (inl lack) = lack.1 there
behind asked name more reason there none (inr (asked_for, lack)) = none lack

-- what is asked of a base and of a log after it, from each step on
module _ (ms : List Member) (node : ℕ) (b : BaseParts) (s : VersionedParts) where
  abbrev pub FaultAsked : NotAccepted → Type 0
  FaultAsked = First (HasFaultAfter ms b s) reasons.NoFault nothing_more

  abbrev pub SignedAsked : NotAccepted → Type 0
  SignedAsked = First (IsSignedIn ms s.closing) reasons.NotSigned FaultAsked

  abbrev pub EndsAsked : NotAccepted → Type 0
  EndsAsked = First (EndsIn s) reasons.NotClosed SignedAsked

  abbrev pub FollowsAsked : NotAccepted → Type 0
  FollowsAsked = First (FollowsOn b s) reasons.NotFromBase EndsAsked

  abbrev pub GoodAsked : NotAccepted → Type 0
  GoodAsked = First (IsGood ms b) reasons.NoGoodBase FollowsAsked

  abbrev pub BaseSignedAsked : NotAccepted → Type 0
  BaseSignedAsked = First (IsSignedIn ms b.showing.closing) reasons.NotSigned GoodAsked

  abbrev pub BaseEndsAsked : NotAccepted → Type 0
  BaseEndsAsked = First (Ends b.log_version b.showing) reasons.NotClosed BaseSignedAsked

  abbrev pub NodeAsked : NotAccepted → Type 0
  NodeAsked = First (s.node ≡ node) reasons.AnotherNode BaseEndsAsked

  abbrev pub VersionAsked : NotAccepted → Type 0
  VersionAsked = First (IsTrue (keeps_version ms node b.log_version)) reasons.OtherVersion NodeAsked

  -- a base and a log after it that are accepted lack nothing
  pub based_lacks : (reason : NotAccepted) → IsTrue (keeps_version ms node b.log_version)
      → BasedLacks ms node b s reason → AcceptsBased ms node b s → ⊥
  based_lacks reason version lack x =
      let c = x.good.closed in
      let ends : Ends b.log_version b.showing =
      record { first = c.first; skips = c.skips; node = c.node; last = c.last; hash = c.hash } in
      let good : IsGood ms b = record { member = x.member; state = x.state; good = x.good } in
      let follows : FollowsOn b s = record { first = x.first; opening = x.opening } in
      let fault : HasFaultAfter ms b s = record {
        member = x.member;
        state = x.state;
        good = x.good;
        fault = x.fault;
        number = x.number;
        found = x.found;
      } in
      behind (b.showing.node ≡ node) reasons.AnotherNode VersionAsked reason x.base_node
      (behind (IsTrue (keeps_version ms node b.log_version)) reasons.OtherVersion NodeAsked reason version
      (behind (s.node ≡ node) reasons.AnotherNode BaseEndsAsked reason x.of_node
      (behind (Ends b.log_version b.showing) reasons.NotClosed BaseSignedAsked reason ends
      (behind (IsSignedIn ms b.showing.closing) reasons.NotSigned GoodAsked reason c.signed
      (behind (IsGood ms b) reasons.NoGoodBase FollowsAsked reason good
      (behind (FollowsOn b s) reasons.NotFromBase EndsAsked reason follows
      (behind (EndsIn s) reasons.NotClosed SignedAsked reason x.closed.ends
      (behind (IsSignedIn ms s.closing) reasons.NotSigned FaultAsked reason x.closed.signed
      (behind (HasFaultAfter ms b s) reasons.NoFault nothing_more reason fault (λ none. none)))))))))) lack

-- ---- what is found tells whether evidence is accepted

-- a fork with two marks is accepted
fork_accepts : (v : LogVersion) (ms : List Member) (node fork_at : ℕ) (a : ShowingParts) (b : Option ShowingParts)
    (at : ℕ) (one other : Mark) → AcceptsMarks v ms node fork_at a b at one other
    → AcceptsFork v ms node fork_at a b
fork_accepts v ms node fork_at a (Some b) at one other h = h.1.accepted
fork_accepts v ms node fork_at a None at one other h = h.2.accepted

-- something is accepted against a node, whose log is of this version where it is a member
abbrev AcceptsVersion : LogVersion → List Member → (node : ℕ) → (accepts : Type 0) → Type 0
AcceptsVersion v ms node accepts = IsTrue (keeps_version ms node v) × accepts

-- two marks aren't found in a fork that lacks something
pub fork_has_two : (v : LogVersion) (ms : List Member) (node fork_at : ℕ) (a : ShowingParts)
    (b : Option ShowingParts) (at : ℕ) (one other : Mark) (reason : NotAccepted)
    → ForkLacks v ms node fork_at a b reason
    → FindsInFork v ms node fork_at a b (found.TwoMarks at one other) → ⊥
fork_has_two v ms node fork_at a b at one other reason lack h =
    fork_lacks v ms node fork_at a b reason lack h.0 (fork_accepts v ms node fork_at a b at one other h.3)

fork_exact : (v : LogVersion) (ms : List Member) (node at : ℕ) (a : ShowingParts) (b : Option ShowingParts)
    (f : Finding) → FindsInFork v ms node at a b f
    → IsTrue (is_accepted f) ↔ AcceptsVersion v ms node (AcceptsFork v ms node at a b)
fork_exact v ms node fork_at a b (found.TwoMarks at one other) h =
    ((λ t. (h.0, fork_accepts v ms node fork_at a b at one other h.3)), (λ accepted. refl))
fork_exact v ms node fork_at a b (found.Fault fault number) h = absurd h
fork_exact v ms node fork_at a b (found.NotAccepted reason) h =
    ((λ t. absurd cc), (λ accepted. absurd (fork_lacks v ms node fork_at a b reason h accepted.0 accepted.1)))

log_exact : (ms : List Member) (node : ℕ) (s : VersionedParts) (f : Finding) → FindsInLog ms node s f
    → IsTrue (is_accepted f) ↔ AcceptsVersion s.log_version ms node (AcceptsReplay ms node s)
log_exact ms node s (found.TwoMarks at one other) h = absurd h
log_exact ms node s (found.Fault fault number) h =
    ((λ t. (log_version ms node s h.accepted, h.accepted)), (λ accepted. refl))
log_exact ms node s (found.NotAccepted reason) h =
    ((λ t. absurd cc), (λ accepted. absurd (log_lacks ms node s reason h accepted.1)))

-- what is accepted is of the version that the roster gives the node
based_version : (ms : List Member) (node : ℕ) (b : BaseParts) (s : VersionedParts) → AcceptsBased ms node b s
    → IsTrue (keeps_version ms node b.log_version)
based_version ms node b s x =
    let kept : IsTrue (keeps_version ms s.node b.log_version) =
    subst (λ v. IsTrue (keeps_version ms s.node v)) x.version x.closed.version in
    subst (λ n. IsTrue (keeps_version ms n b.log_version)) x.of_node kept

based_exact : (ms : List Member) (node : ℕ) (b : BaseParts) (s : VersionedParts) (f : Finding)
    → FindsInBased ms node b s f
    → IsTrue (is_accepted f) ↔ AcceptsVersion b.log_version ms node (AcceptsBased ms node b s)
based_exact ms node b s (found.TwoMarks at one other) h = absurd h
based_exact ms node b s (found.Fault fault number) h = ((λ t. (h.0, h.1.accepted)), (λ accepted. refl))
based_exact ms node b s (found.NotAccepted reason) h =
    ((λ t. absurd cc), (λ accepted. absurd (based_lacks ms node b s reason accepted.0 h accepted.1)))

charge_exact : (ms : List Member) (node : ℕ) (c : Charge) (f : Finding) → FindsInCharge ms node c f
    → IsTrue (is_accepted f) ↔ AcceptsVersion (charge_version c) ms node (AcceptsCharge ms node c)
charge_exact ms node (Fork fork) f h = fork_exact fork.log_version ms node fork.at fork.a fork.b f h
charge_exact ms node (Replay s) f h = log_exact ms node s f h
charge_exact ms node (Based b s) f h = based_exact ms node b s f h

-- evidence is accepted exactly where what is found says so
finds_exact : (ms : List Member) (e : EvidenceParts) (f : Finding) → Finds ms e f
    → IsTrue (is_accepted f) ↔ Accepts ms e
finds_exact ms e f h = charge_exact ms e.node e.charge f h

-- where a call gives a finding, that tells whether the evidence is accepted
pub result_exact : {E : Type 0} (ms : List Member) (e : EvidenceParts) (r : Result Finding E)
    → IfOk r (λ f. Finds ms e f)
    → IfOk r (λ f. IsTrue (is_accepted f) ↔ Accepts ms e)
result_exact ms e (Ok f) h = finds_exact ms e f h
result_exact ms e (Err error) h = tt

-- ---- marks at a number

-- what a showing's call answers for a number
abbrev pub Answers : ShowingParts → (number : ℕ) → Option (List ℕ) → Type 0
Answers s number answer = (mark : List ℕ) → (answer ≡ Some mark) ↔ Shows s number mark

-- a showing without a mark there shows no two
pub no_first : (at : ℕ) (a b : ShowingParts) → Answers a at None → HasNoTwo at a (Some b)
no_first at a b answers one other shown shown_other = let none : None ≡ Some one =
    (answers one).1 shown in absurd cc

-- nor do two showings of which the second has no mark there
pub no_second : (at : ℕ) (a b : ShowingParts) → Answers b at None → HasNoTwo at a (Some b)
no_second at a b answers one other shown shown_other = let none : None ≡ Some other =
    (answers other).1 shown_other in absurd cc

-- a showing alone without a hash at 0 shows none but zeros there
pub no_hash : (at : ℕ) (a : ShowingParts) → Answers a 0 None → HasNoTwo at a None
no_hash at a answers hash shown = let none : None ≡ Some hash = (answers hash).1 shown in absurd cc

-- nor do two that show the same
pub same_marks : (at : ℕ) (a b : ShowingParts) (one other : List ℕ) → Answers a at (Some one)
    → Answers b at (Some other) → one ≡ other → HasNoTwo at a (Some b)
same_marks at a b one other first second same x y shown shown_other =
    let is_one : Some one ≡ Some x = (first x).1 shown in
    let is_other : Some other ≡ Some y = (second y).1 shown_other in
    cc

-- nor does one that shows 32 zero bytes at 0
pub same_zeros : (at : ℕ) (a : ShowingParts) (one : List ℕ) → Answers a 0 (Some one) → one ≡ zeros
    → HasNoTwo at a None
same_zeros at a one answers same x shown =
    let is : Some one ≡ Some x = (answers x).1 shown in cc

-- two closed showings of two marks at a number are accepted
pub accepts_two : (v : LogVersion) (ms : List Member) (node at : ℕ) (a b : ShowingParts) (one other : List ℕ)
    → IsClosedOf v ms node a → IsClosedOf v ms node b
    → Answers a at (Some one) → Answers b at (Some other) → ¬ (one ≡ other)
    → AcceptsTwo v ms node at a b one other
accepts_two v ms node at a b one other closed closed_other first second differ = record {
  accepted = record {
    a_node = closed.of_node;
    b_node = closed_other.of_node;
    a_closed = closed.closed;
    b_closed = closed_other.closed;
    one = one;
    other = other;
    one_shown = (first one).0 refl;
    other_shown = (second other).0 refl;
    differ = differ;
  };
  is_one = refl;
  is_other = refl;
}

-- a closed showing of another hash at 0 is accepted
pub accepts_one : (v : LogVersion) (ms : List Member) (node : ℕ) (a : ShowingParts) (one : List ℕ)
    → IsClosedOf v ms node a → Answers a 0 (Some one) → ¬ (one ≡ zeros) → AcceptsOne v ms node a one
accepts_one v ms node a one closed answers differs = record {
  accepted = record {
    a_node = closed.of_node;
    closed = closed.closed;
    hash = one;
    shown = (answers one).0 refl;
    differs = differs;
  };
  is_one = refl;
}

-- ---- replays

-- what a replay finds in a member's closed log
pub outcome_finds : (ms : List Member) (node : ℕ) (s : VersionedParts) (m : Member) (o : Outcome)
    → IsAudited ms node s m
    → IsOutcome o (verdict_of ms (opening_of m) (places_in s)) → FindsInLog ms node s (finding_in o)
outcome_finds ms node s m (outcomes.Fault fault number) audited is = record {
  accepted = record {
    of_node = audited.of_node;
    first = audited.start.first;
    opening = audited.start.opening;
    closed = audited.closed;
    member = m;
    is_member = audited.is_member;
    fault = fault_in fault;
    number = number;
    found = is;
  };
  is_fault = refl;
  is_number = refl;
}
outcome_finds ms node s m (outcomes.Sound state) audited is = record {
  member = m;
  audited = audited;
  none = λ fault number found. let both = sym is.1 ∙ found in absurd cc;
}

-- a text is that of one state at most
abbrev pub OneState : Type 0
OneState = (s t : State) (bytes : List ℕ) → IsStateText s bytes → IsStateText t bytes → s ≡ t

-- what a replay finds in a closed log after a good base
pub after_finds : OneState → (ms : List Member) (node : ℕ) (b : BaseParts) (s : VersionedParts) (m : Member) (t : State)
    (o : Outcome) → IsClosedBase ms node b s → IsGoodBase ms b m t → IsClosedAfter ms b s
    → s.log_version ≡ b.log_version
    → IsOutcome o (verdict_of ms t (places_in s)) → FindsInBased ms node b s (finding_in o)
after_finds law ms node b s m t (outcomes.Fault fault number) closed good after version is = (
  closed.version,
  record {
    accepted = record {
      member = m;
      state = t;
      good = good;
      base_node = closed.base_node;
      of_node = closed.of_node;
      version = version;
      first = after.follows.first;
      opening = after.follows.opening;
      closed = record {
        version = subst (λ v. IsTrue (keeps_version ms s.node v)) (sym version)
            (subst (λ n. IsTrue (keeps_version ms n b.log_version)) (sym closed.of_node) closed.version);
        ends = after.ends;
        signed = after.signed;
      };
      fault = fault_in fault;
      number = number;
      found = is;
    };
    is_fault = refl;
    is_number = refl;
  },
)
after_finds law ms node b s m t (outcomes.Sound state) closed good after version is =
    let is_good : IsGood ms b = record { member = m; state = t; good = good } in
    let none : ¬ HasFaultAfter ms b s = λ h.
    let same : h.state ≡ t = law h.state t b.state h.good.state.text good.state.text in
    let found = sym is.1 ∙ ap (λ x. verdict_of ms x (places_in s)) (sym same) ∙ h.found in
    absurd cc in
    inr (
      closed.base_node,
      inr (
        closed.version,
        inr (
          closed.of_node,
          inr (
            closed.ends,
            inr (
              closed.signed,
              inr (is_good, inr (after.follows, inr (after.ends, inr (after.signed, inl (refl, none))))),
            ),
          ),
        ),
      ),
    )
