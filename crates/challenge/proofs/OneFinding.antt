-- Evidence has one finding at most: it lacks one thing first, or it is accepted with one fault or one pair of
-- marks.
-- Serves: one_finding.
use Rattle.std.proofs.Common.{◌≡◌, ℕ, ◌-◌, List, length, Option, Some, None, refl, sym, ap, ◌∙◌, inl, inr}
use Rattle.std.specs.Prelude.{IsTrue}
use Rattle.authenticator.specs.declared.member.LogVersion.{LogVersion}
use Rattle.authenticator.specs.declared.member.Member.{Member}
use Rattle.authenticator.specs.Roster.{keeps_version}
use Rattle.authenticator.specs.Signed.{IsSignedIn}
use Rattle.secure_log.specs.Versioned.{VersionedParts, EndsIn}
use Rattle.replay.specs.Faults.{fault_in}
use Rattle.replay.specs.declared.fault.ReplayFault.{ReplayFault}
use Rattle.replay.specs.declared.fault.ReplayFault.TheVariants as faults
use Rattle.replay.specs.replay_spec.Stepping as spec
use Rattle.replay.specs.replay_spec.Replay.{verdict_of}
use Rattle.replay.specs.replay_spec.Placed.{places_in}
use Rattle.replay.specs.replay_spec.Opening.{opening_of}
use Rattle.secure_log.proofs.OfLogEntries.Marks.{one_mark}
use Rattle.secure_log.specs.Marks.{mark_in}
use Rattle.secure_log.specs.declared.mark.Mark.{Mark}
use Rattle.secure_log.specs.declared.mark.Mark.TheVariants.{Hash, NoEntry}
use Rattle.evidence_showings.specs.Showings.{Ends}
use Rattle.evidence_showings.specs.evidence_spec.Showing.{ShowingParts, Shows, links_in}
use Rattle.evidence_showings.specs.evidence_spec.Evidence.{Charge, Fork, Replay, Based}
use Rattle.evidence_showings.specs.evidence_spec.Base.{BaseParts}
use Rattle.evidence_showings.proofs.evidence_spec.Gaps.{shown_after}
use Rattle.challenge.specs.declared.finding.Finding.{Finding}
use Rattle.challenge.specs.declared.finding.Finding.TheVariants as found
use Rattle.challenge.specs.declared.finding.NotAccepted.{NotAccepted}
use Rattle.challenge.specs.declared.finding.NotAccepted.TheVariants as reasons
use Rattle.challenge.specs.Findings.{ShowingLacks, LacksAfterFirst, ForkLacks, IsFromStart, LogLacks}
use Rattle.challenge.specs.Findings.{AcceptsMarks, AcceptsFault, FindsInFork, FindsInLog, FindsInCharge}
use Rattle.challenge.specs.Findings.{AcceptsFaultAfter, BasedLacks, FindsInBased, First, IsMark, OneFinding}
use Rattle.challenge.specs.Findings.{FollowsOn, HasFaultAfter, IsGood, nothing_more}
use Rattle.challenge.proofs.Found.{BaseEndsAsked, BaseSignedAsked, EndsAsked, FaultAsked, FollowsAsked}
use Rattle.challenge.proofs.Found.{OneState}
use Rattle.challenge.proofs.Found.{GoodAsked, NodeAsked, SignedAsked, VersionAsked}
use Rattle.challenge.proofs.Found.{not_true, showing_lacks, log_lacks, based_lacks, fork_has_two}

-- ---- what is lacking first

-- No two things are lacking.
abbrev IsOne : (NotAccepted → Type 0) → Type 0
IsOne lacks = (one other : NotAccepted) → lacks one → lacks other → one ≡ other

first_is_one : (asked : Type 0) (name : NotAccepted) (behind : NotAccepted → Type 0) → IsOne behind
    → IsOne (First asked name behind)
first_is_one asked name behind is_one one other (inl x) (inl y) = x.0 ∙ sym y.0
first_is_one asked name behind is_one one other (inl x) (inr y) = absurd (x.1 y.0)
first_is_one asked name behind is_one one other (inr x) (inl y) = absurd (y.1 x.0)
first_is_one asked name behind is_one one other (inr x) (inr y) = is_one one other x.1 y.1

abbrev Only : NotAccepted → NotAccepted → Type 0
Only name reason = reason ≡ name

only_is_one : (name : NotAccepted) → IsOne (Only name)
only_is_one name one other x y = x ∙ sym y

-- ---- in a showing

module _ (v : LogVersion) (ms : List Member) (node : ℕ) (s : ShowingParts) where
  abbrev Signed : NotAccepted → Type 0
  Signed = First (IsSignedIn ms s.closing) reasons.NotSigned (λ reason. ⊥)

  abbrev Ended : NotAccepted → Type 0
  Ended = First (Ends v s) reasons.NotClosed Signed

  abbrev OfVersion : NotAccepted → Type 0
  OfVersion = First (IsTrue (keeps_version ms node v)) reasons.OtherVersion Ended

  abbrev OfNode : NotAccepted → Type 0
  OfNode = First (s.node ≡ node) reasons.AnotherNode OfVersion

  in_order : (reason : NotAccepted) → ShowingLacks v ms node s reason → OfNode reason
  in_order reasons.AnotherNode lack = inl (refl, lack)
  in_order reasons.OtherVersion lack = inr (lack.0, inl (refl, not_true lack.1))
  in_order reasons.NotClosed lack = inr (lack.0, inr (lack.1, inl (refl, lack.2)))
  in_order reasons.NotSigned lack = inr (lack.0, inr (lack.1, inr (lack.2, inl (refl, lack.3))))
  in_order reasons.NotFromStart lack = absurd lack
  in_order reasons.NoGoodBase lack = absurd lack
  in_order reasons.NotFromBase lack = absurd lack
  in_order reasons.NoTwoMarks lack = absurd lack
  in_order reasons.NoFault lack = absurd lack

  order_is_one : IsOne OfNode
  order_is_one =
      first_is_one (s.node ≡ node) reasons.AnotherNode OfVersion
      (first_is_one (IsTrue (keeps_version ms node v)) reasons.OtherVersion Ended
      (first_is_one (Ends v s) reasons.NotClosed Signed
      (first_is_one (IsSignedIn ms s.closing) reasons.NotSigned (λ reason. ⊥) (λ one other x y. absurd x))))

  showing_lacks_one : IsOne (ShowingLacks v ms node s)
  showing_lacks_one one other x y = order_is_one one other (in_order one x) (in_order other y)

-- ---- in a fork

module _ (v : LogVersion) (ms : List Member) (node at : ℕ) (a : ShowingParts) where
  after_lacks_one : (b : Option ShowingParts) → IsOne (LacksAfterFirst v ms node at a b)
  after_lacks_one (Some b) one other (inl x) (inl y) = showing_lacks_one v ms node b one other x y
  after_lacks_one (Some b) one other (inl x) (inr y) =
      absurd (showing_lacks v ms node b one y.0 x)
  after_lacks_one (Some b) one other (inr x) (inl y) =
      absurd (showing_lacks v ms node b other x.0 y)
  after_lacks_one (Some b) one other (inr x) (inr y) = x.1 ∙ sym y.1
  after_lacks_one None one other x y = x.0 ∙ sym y.0

  fork_lacks_one : (b : Option ShowingParts) → IsOne (ForkLacks v ms node at a b)
  fork_lacks_one b one other (inl x) (inl y) = showing_lacks_one v ms node a one other x y
  fork_lacks_one b one other (inl x) (inr y) = absurd (showing_lacks v ms node a one y.0 x)
  fork_lacks_one b one other (inr x) (inl y) = absurd (showing_lacks v ms node a other x.0 y)
  fork_lacks_one b one other (inr x) (inr y) = after_lacks_one b one other x.1 y.1

-- ---- in a log

module _ (ms : List Member) (node : ℕ) (s : VersionedParts) where
  abbrev SignedLog : NotAccepted → Type 0
  SignedLog = First (IsSignedIn ms s.closing) reasons.NotSigned (Only reasons.NoFault)

  abbrev EndedLog : NotAccepted → Type 0
  EndedLog = First (EndsIn s) reasons.NotClosed SignedLog

  abbrev StartedLog : NotAccepted → Type 0
  StartedLog = First (IsFromStart s) reasons.NotFromStart EndedLog

  abbrev LogOfVersion : NotAccepted → Type 0
  LogOfVersion = First (IsTrue (keeps_version ms node s.log_version)) reasons.OtherVersion StartedLog

  abbrev LogOfNode : NotAccepted → Type 0
  LogOfNode = First (s.node ≡ node) reasons.AnotherNode LogOfVersion

  log_in_order : (reason : NotAccepted) → LogLacks ms node s reason → LogOfNode reason
  log_in_order reasons.AnotherNode lack = inl (refl, lack)
  log_in_order reasons.OtherVersion lack = inr (lack.0, inl (refl, not_true lack.1))
  log_in_order reasons.NotFromStart lack = inr (lack.0, inr (lack.1, inl (refl, lack.2)))
  log_in_order reasons.NotClosed lack = inr (lack.0, inr (lack.1, inr (lack.2, inl (refl, lack.3))))
  log_in_order reasons.NotSigned lack =
      inr (lack.0, inr (lack.1, inr (lack.2, inr (lack.3, inl (refl, lack.4)))))
  log_in_order reasons.NoGoodBase lack = absurd lack
  log_in_order reasons.NotFromBase lack = absurd lack
  log_in_order reasons.NoTwoMarks lack = absurd lack
  log_in_order reasons.NoFault lack =
      let a = lack.audited in
      inr (a.of_node, inr (a.version, inr (a.start, inr (a.closed.ends, inr (a.closed.signed, refl)))))

  log_order_is_one : IsOne LogOfNode
  log_order_is_one =
      first_is_one (s.node ≡ node) reasons.AnotherNode LogOfVersion
      (first_is_one (IsTrue (keeps_version ms node s.log_version)) reasons.OtherVersion StartedLog
      (first_is_one (IsFromStart s) reasons.NotFromStart EndedLog
      (first_is_one (EndsIn s) reasons.NotClosed SignedLog
      (first_is_one (IsSignedIn ms s.closing) reasons.NotSigned (Only reasons.NoFault)
      (only_is_one reasons.NoFault)))))

  log_lacks_one : IsOne (LogLacks ms node s)
  log_lacks_one one other x y = log_order_is_one one other (log_in_order one x) (log_in_order other y)

-- ---- in a base and a log after it

module _ (ms : List Member) (node : ℕ) (b : BaseParts) (s : VersionedParts) where
  based_lacks_one : IsOne (BasedLacks ms node b s)
  based_lacks_one =
      first_is_one (b.showing.node ≡ node) reasons.AnotherNode (VersionAsked ms node b s)
      (first_is_one (IsTrue (keeps_version ms node b.log_version)) reasons.OtherVersion (NodeAsked ms node b s)
      (first_is_one (s.node ≡ node) reasons.AnotherNode (BaseEndsAsked ms node b s)
      (first_is_one (Ends b.log_version b.showing) reasons.NotClosed (BaseSignedAsked ms node b s)
      (first_is_one (IsSignedIn ms b.showing.closing) reasons.NotSigned (GoodAsked ms node b s)
      (first_is_one (IsGood ms b) reasons.NoGoodBase (FollowsAsked ms node b s)
      (first_is_one (FollowsOn b s) reasons.NotFromBase (EndsAsked ms node b s)
      (first_is_one (EndsIn s) reasons.NotClosed (SignedAsked ms node b s)
      (first_is_one (IsSignedIn ms s.closing) reasons.NotSigned (FaultAsked ms node b s)
      (first_is_one (HasFaultAfter ms b s) reasons.NoFault nothing_more (λ one other x y. absurd x))))))))))

-- ---- what is accepted

-- a showing shows one mark at a number
one_shown : (s : ShowingParts) (number : ℕ) (one other : List ℕ) → Shows s number one → Shows s number other
    → one ≡ other
one_shown s number one other i j =
    one_mark (s.first - 1) s.opening (links_in s) number one other (shown_after (s.first - 1) s.links) i j

-- a mark has its bytes alone
one_in_bytes : (one other : Mark) → IsMark one → IsMark other → mark_in one ≡ mark_in other → one ≡ other
one_in_bytes (Hash h) (Hash k) m n e = ap Hash e
one_in_bytes (Hash h) NoEntry m n e = absurd (no_length (sym m ∙ ap (λ (x : List ℕ). length x) e))
  where
    no_length : ¬ ◌≡◌ {A = ℕ} 32 0
    no_length e = absurd cc
one_in_bytes NoEntry (Hash h) m n e = absurd (no_length (sym n ∙ ap (λ (x : List ℕ). length x) (sym e)))
  where
    no_length : ¬ ◌≡◌ {A = ℕ} 32 0
    no_length e = absurd cc
one_in_bytes NoEntry NoEntry m n e = refl

same_marks : (v : LogVersion) (ms : List Member) (node fork_at : ℕ) (a : ShowingParts) (b : Option ShowingParts)
    (at at' : ℕ) (one one' other other' : Mark) → IsMark one → IsMark one' → IsMark other → IsMark other'
    → AcceptsMarks v ms node fork_at a b at one other
    → AcceptsMarks v ms node fork_at a b at' one' other'
    → found.TwoMarks at one other ≡ found.TwoMarks at' one' other'
same_marks v ms node fork_at a (Some b) at at' one one' other other' m m' n n' x y =
    let p = x.1.accepted in
    let q = y.1.accepted in
    let places : at ≡ at' = x.0 ∙ sym y.0 in
    let ones : one ≡ one' =
    one_in_bytes one one' m m'
    (sym x.1.is_one ∙ one_shown a fork_at p.one q.one p.one_shown q.one_shown ∙ y.1.is_one) in
    let others : other ≡ other' =
    one_in_bytes other other' n n'
    (sym x.1.is_other ∙ one_shown b fork_at p.other q.other p.other_shown q.other_shown ∙ y.1.is_other) in
    cc
same_marks v ms node fork_at a None at at' one one' other other' m m' n n' x y =
    let p = x.2.accepted in
    let q = y.2.accepted in
    let places : at ≡ at' = x.0 ∙ sym y.0 in
    let ones : one ≡ one' =
    one_in_bytes one one' m m'
    (sym x.2.is_one ∙ one_shown a 0 p.hash q.hash p.shown q.shown ∙ y.2.is_one) in
    let others : other ≡ other' = x.1 ∙ sym y.1 in
    cc

fault_back : spec.ReplayFault → ReplayFault
fault_back spec.BadForm = faults.BadForm
fault_back spec.BadReceive = faults.BadReceive
fault_back spec.Repeated = faults.Repeated
fault_back spec.WrongReply = faults.WrongReply
fault_back spec.ClockBack = faults.ClockBack
fault_back spec.WrongCheckpoint = faults.WrongCheckpoint
fault_back spec.BadAck = faults.BadAck

back_again : (f : ReplayFault) → fault_back (fault_in f) ≡ f
unfolding fault_back
back_again faults.BadForm = refl
back_again faults.BadReceive = refl
back_again faults.Repeated = refl
back_again faults.WrongReply = refl
back_again faults.ClockBack = refl
back_again faults.WrongCheckpoint = refl
back_again faults.BadAck = refl

same_faults : (ms : List Member) (node : ℕ) (s : VersionedParts) (fault fault' : ReplayFault)
    (number number' : ℕ) → AcceptsFault ms node s fault number → AcceptsFault ms node s fault' number'
    → found.Fault fault number ≡ found.Fault fault' number'
same_faults ms node s fault fault' number number' x y =
    let p = x.accepted in
    let q = y.accepted in
    let members : Some p.member ≡ Some q.member = sym p.is_member ∙ q.is_member in
    let member : p.member ≡ q.member = cc in
    let verdicts = sym p.found ∙ ap (λ m. verdict_of ms (opening_of m) (places_in s)) member ∙ q.found in
    let faults : p.fault ≡ q.fault = cc in
    let numbers : p.number ≡ q.number = cc in
    let again : fault ≡ fault' =
    sym (back_again fault) ∙ ap fault_back (sym x.is_fault ∙ faults ∙ y.is_fault) ∙ back_again fault' in
    let places : number ≡ number' = sym x.is_number ∙ numbers ∙ y.is_number in
    cc

-- ---- findings

one_in_fork : (v : LogVersion) (ms : List Member) (node fork_at : ℕ) (a : ShowingParts) (b : Option ShowingParts)
    (one other : Finding) → FindsInFork v ms node fork_at a b one → FindsInFork v ms node fork_at a b other
    → one ≡ other
one_in_fork v ms node fork_at a b (found.TwoMarks at h k) (found.TwoMarks at' h' k') x y =
    same_marks v ms node fork_at a b at at' h h' k k' x.1 y.1 x.2 y.2 x.3 y.3
one_in_fork v ms node fork_at a b (found.TwoMarks at h k) (found.Fault fault number) x y = absurd y
one_in_fork v ms node fork_at a b (found.TwoMarks at h k) (found.NotAccepted reason) x y =
    absurd (fork_has_two v ms node fork_at a b at h k reason y x)
one_in_fork v ms node fork_at a b (found.Fault fault number) other x y = absurd x
one_in_fork v ms node fork_at a b (found.NotAccepted reason) (found.TwoMarks at h k) x y =
    absurd (fork_has_two v ms node fork_at a b at h k reason x y)
one_in_fork v ms node fork_at a b (found.NotAccepted reason) (found.Fault fault number) x y = absurd y
one_in_fork v ms node fork_at a b (found.NotAccepted reason) (found.NotAccepted reason') x y =
    ap found.NotAccepted (fork_lacks_one v ms node fork_at a b reason reason' x y)

one_in_log : (ms : List Member) (node : ℕ) (s : VersionedParts) (one other : Finding)
    → FindsInLog ms node s one → FindsInLog ms node s other → one ≡ other
one_in_log ms node s (found.TwoMarks at h k) other x y = absurd x
one_in_log ms node s (found.Fault fault number) (found.TwoMarks at h k) x y = absurd y
one_in_log ms node s (found.Fault fault number) (found.Fault fault' number') x y =
    same_faults ms node s fault fault' number number' x y
one_in_log ms node s (found.Fault fault number) (found.NotAccepted reason) x y =
    absurd (log_lacks ms node s reason y x.accepted)
one_in_log ms node s (found.NotAccepted reason) (found.TwoMarks at h k) x y = absurd y
one_in_log ms node s (found.NotAccepted reason) (found.Fault fault number) x y =
    absurd (log_lacks ms node s reason x y.accepted)
one_in_log ms node s (found.NotAccepted reason) (found.NotAccepted reason') x y =
    ap found.NotAccepted (log_lacks_one ms node s reason reason' x y)

same_faults_after : OneState → (ms : List Member) (node : ℕ) (b : BaseParts) (s : VersionedParts) (fault fault' : ReplayFault)
    (number number' : ℕ) → AcceptsFaultAfter ms node b s fault number → AcceptsFaultAfter ms node b s fault' number'
    → found.Fault fault number ≡ found.Fault fault' number'
same_faults_after one ms node b s fault fault' number number' x y =
    let p = x.accepted in
    let q = y.accepted in
    let states : p.state ≡ q.state = one p.state q.state b.state p.good.state.text q.good.state.text in
    let verdicts = sym p.found ∙ ap (λ t. verdict_of ms t (places_in s)) states ∙ q.found in
    let faults : p.fault ≡ q.fault = cc in
    let numbers : p.number ≡ q.number = cc in
    let again : fault ≡ fault' =
    sym (back_again fault) ∙ ap fault_back (sym x.is_fault ∙ faults ∙ y.is_fault) ∙ back_again fault' in
    let places : number ≡ number' = sym x.is_number ∙ numbers ∙ y.is_number in
    cc

one_in_based : OneState → (ms : List Member) (node : ℕ) (b : BaseParts) (s : VersionedParts) (one other : Finding)
    → FindsInBased ms node b s one → FindsInBased ms node b s other → one ≡ other
one_in_based law ms node b s (found.TwoMarks at h k) other x y = absurd x
one_in_based law ms node b s (found.Fault fault number) (found.TwoMarks at h k) x y = absurd y
one_in_based law ms node b s (found.Fault fault number) (found.Fault fault' number') x y =
    same_faults_after law ms node b s fault fault' number number' x.1 y.1
one_in_based law ms node b s (found.Fault fault number) (found.NotAccepted reason) x y =
    absurd (based_lacks ms node b s reason x.0 y x.1.accepted)
one_in_based law ms node b s (found.NotAccepted reason) (found.TwoMarks at h k) x y = absurd y
one_in_based law ms node b s (found.NotAccepted reason) (found.Fault fault number) x y =
    absurd (based_lacks ms node b s reason y.0 x y.1.accepted)
one_in_based law ms node b s (found.NotAccepted reason) (found.NotAccepted reason') x y =
    ap found.NotAccepted (based_lacks_one ms node b s reason reason' x y)

one_in_charge : OneState → (ms : List Member) (node : ℕ) (c : Charge) (one other : Finding) → FindsInCharge ms node c one
    → FindsInCharge ms node c other → one ≡ other
one_in_charge law ms node (Fork f) one other x y = one_in_fork f.log_version ms node f.at f.a f.b one other x y
one_in_charge law ms node (Replay s) one other x y = one_in_log ms node s one other x y
one_in_charge law ms node (Based b s) one other x y = one_in_based law ms node b s one other x y

-- evidence has one finding at most
pub one_is_found : OneState → OneFinding
one_is_found law ms e one other x y = one_in_charge law ms e.node e.charge one other x y
