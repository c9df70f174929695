-- A node's own steps hold what was checked: authenticators that it signed, and segments of it that are closed
-- under the roster.
-- Serves: the laws of `trust` and `evidence`.
use Rattle.std.proofs.Common.{◌≡◌, ℕ, Bool, true, false, cond, ◌==◌, List, [], ◌∷◌, ◌++◌, Option, Some}
use Rattle.std.proofs.Common.{arith, None, IsSomeAnd, Result, Ok, Err, refl, sym, ap, ap₂, subst, ◌∙◌}
use Rattle.std.proofs.Common.{eqb-true}
use Rattle.std.specs.Prelude.{◌&&◌, IsTrue}
use Rattle.std.proofs.lemmas.Bool.{and_parts, true≢false}
use Rattle.xdr.specs.Item.{Fits, IsBytes}
use Rattle.authenticator.specs.Roster.{member_of, kind_number, log_number, same_version}
use Rattle.authenticator.specs.declared.member.LogVersion.{LogVersion}
use Rattle.authenticator.specs.declared.member.LogVersion.TheVariants.{One, Two}
use Rattle.authenticator.specs.Signed.{IsSignedBy, IsSignedIn, authenticator_item, authenticator_value}
use Rattle.authenticator.specs.declared.authenticator.Authenticator.{Authenticator}
use Rattle.authenticator.specs.declared.member.Kind.{Kind}
use Rattle.authenticator.specs.declared.member.Kind.TheVariants.{Server, Client}
use Rattle.authenticator.specs.declared.member.Member.{Member}
use Rattle.authenticator.specs.declared.refusal.Refusal as checks
use Rattle.authenticator.proofs.Members.{member_node}
use Rattle.authenticator.proofs.Signed.{same_list}
use Rattle.secure_log.specs.declared.segment.TheConstants.{MAX_ENTRIES}
use Rattle.secure_log.specs.Versioned.{VersionedParts, ClosedParts, FitsVersion, IsClosedIn}
use Rattle.secure_log.specs.Versioned.{is_whole_in, versioned_value}
use Rattle.witness_spec.specs.packets.Packet.{Delivery}
use Rattle.witness_spec.specs.packets.Packet as packets
use Rattle.witness_spec.specs.packets.Judging.{judged}
use Rattle.witness_spec.specs.packets.Taking.{IsTaken}
use Rattle.witness_spec.proofs.packets.Taken.{as_meant}
use Rattle.witness_spec.specs.Refusals.{Refusal, BadSignature}
use Rattle.witness_spec.specs.Events.{PublicKey, Event, IsSignedUnder, IsClosedUnder, IsEvent}
use Rattle.witness_spec.specs.Events as events
use Rattle.witness_spec.specs.Replies.{Reply, is_want_of_memory}
use Rattle.witness_spec.specs.Starting.{Beginning}
use Rattle.witness_spec.specs.Watched.{Watched, watched, IsInRoster, IsWatchedFrom}
use Rattle.witness_spec.specs.Steps.{Step, Learn, SendChallenge, Answer, AckIn, Audit, Begin, File, PutBack}
use Rattle.witness_spec.specs.Steps.{Forward, Ask, OwnStep, Past}
use Rattle.witness_spec.specs.Whose.{step_of, is_key_of, same_member, same_roster, signed_step, sent_step}
use Rattle.witness_spec.specs.Whose.{closed_step, delivered_step, judged_step, whose}
use Rattle.witness_spec.specs.Histories.{History, own_step, IsHistory, own_of}
use Rattle.witness_laws.proofs.OwnSteps.{same_watched, same_member as member_same}

-- an authenticator of a node that it signed, with a text
pub record IsLearned (w : Watched) (a : Authenticator) : Type 0 where
  -- it is of this node
  pub node : a.node ≡ w.member.node
  -- it has a text
  pub text : Fits authenticator_item (authenticator_value a)
  -- a member of the roster signed it
  pub signed : IsSignedIn w.roster a

-- a segment of a node that is closed under the roster, with a text
pub record IsGiven (w : Watched) (c : ClosedParts) : Type 0 where
  -- its closing authenticator is of this node
  pub node : c.segment.closing.node ≡ w.member.node
  -- the roster under which it was checked
  pub roster : c.roster ≡ w.roster
  -- it has a text
  pub fits : FitsVersion MAX_ENTRIES c.segment
  -- with that it is whole
  pub whole : IsTrue (is_whole_in c.segment.log_version (versioned_value c.segment.log_version c.segment))
  -- it is closed under the roster
  pub closed : IsClosedIn w.roster c.segment

-- what a step brings was checked under the node's key and roster
abbrev pub IsCheckedStep : Watched → Step → Type 0
IsCheckedStep w (Learn a) = IsLearned w a
IsCheckedStep w (Answer c) = IsGiven w c
IsCheckedStep w _ = Unit {0}

-- so of each step
abbrev pub AreChecked : Watched → Past → Type 0
AreChecked w [] = Unit {0}
AreChecked w (p ∷ past) = IsCheckedStep w p.0 × AreChecked w past

abbrev IsCheckedOwn : Beginning → OwnStep → Type 0
IsCheckedOwn g o = IsCheckedStep (watched g o.member) o.step

-- ---- rosters and keys

kind_same : (a b : Kind) → kind_number a ≡ kind_number b → a ≡ b
kind_same Server Server h = refl
kind_same Server Client h = absurd (omega (arith, h))
kind_same Client Server h = absurd (omega (arith, h))
kind_same Client Client h = refl

-- versions of logs that have one number are one
pub version_same : (a b : LogVersion) → log_number a ≡ log_number b → a ≡ b
version_same One One h = refl
version_same One Two h = absurd (omega (arith, h))
version_same Two One h = absurd (omega (arith, h))
version_same Two Two h = refl

make : ℕ → Kind → List ℕ → ℕ → LogVersion → Member
make node kind root height version =
    record { node = node; kind = kind; root = root; height = height; log_version = version }

member_is : (x y : Member) → same_member x y ≡ true → x ≡ y
unfolding make
member_is x y h =
    let a = and_parts (x.node == y.node) _ h in
    let b = and_parts (kind_number x.kind == kind_number y.kind) _ a.1 in
    let c = and_parts _ ((x.height == y.height) && same_version x.log_version y.log_version) b.1 in
    let d = and_parts (x.height == y.height) _ c.1 in
    let node : x.node ≡ y.node = eqb-true x.node y.node a.0 in
    let kind : x.kind ≡ y.kind = kind_same x.kind y.kind
    (eqb-true (kind_number x.kind) (kind_number y.kind) b.0) in
    let root : x.root ≡ y.root = same_list x.root y.root c.0 in
    let height : x.height ≡ y.height = eqb-true x.height y.height d.0 in
    let version : x.log_version ≡ y.log_version = version_same x.log_version y.log_version
    (eqb-true (log_number x.log_version) (log_number y.log_version) d.1) in
    ap₂ (λ n k. make n k x.root x.height x.log_version) node kind
    ∙ (ap₂ (λ r t. make y.node y.kind r t x.log_version) root height
    ∙ ap (make y.node y.kind y.root y.height) version)

-- rosters that the test finds the same are equal
pub roster_is : (xs ys : List Member) → same_roster xs ys ≡ true → xs ≡ ys
roster_is [] [] h = refl
roster_is [] (y ∷ ys) h = absurd (true≢false (sym h))
roster_is (x ∷ xs) [] h = absurd (true≢false (sym h))
roster_is (x ∷ xs) (y ∷ ys) h =
    let both = and_parts (same_member x y) (same_roster xs ys) h in
    ap₂ (λ (z : Member) (zs : List Member). z ∷ zs) (member_is x y both.0) (roster_is xs ys both.1)

-- what is signed under a member's key is signed by it
signed_by : (m : Member) (key : PublicKey) (a : Authenticator) → is_key_of m key ≡ true → IsSignedUnder key a
    → IsSignedBy m a
signed_by m key a h signed =
    let both = and_parts _ (m.height == key.height) h in
    let root : m.root ≡ key.root = same_list m.root key.root both.0 in
    let height : m.height ≡ key.height = eqb-true m.height key.height both.1 in
    subst (λ r. IsSignedUnder (record { root = r; height = m.height }) a) (sym root)
    (subst (λ t. IsSignedUnder (record { root = key.root; height = t }) a) (sym height) signed)

in_roster : (w : Watched) (a : Authenticator) → member_of w.roster a.node ≡ Some w.member
    → IsSignedBy w.member a
    → IsSignedIn w.roster a
in_roster w a is signed = subst (λ x. IsSomeAnd x (λ n. IsSignedBy n a)) (sym is) signed

-- ---- checked values

own_same : (o : OwnStep) (m : Member) (step : Step)
    → ◌≡◌ {A = Result OwnStep Refusal} (Ok (record { member = m; step = step })) (Ok o)
    → record { member = m; step = step } ≡ o
own_same o m step h = cc

to_own : (g : Beginning) (o : OwnStep) (m : Member) (step : Step) → IsCheckedStep (watched g m) step
    → ◌≡◌ {A = Result OwnStep Refusal} (Ok (record { member = m; step = step })) (Ok o) → IsCheckedOwn g o
to_own g o m step h e = subst (IsCheckedOwn g) (own_same o m step e) h

module _ (g : Beginning) (o : OwnStep) where
  learn_at : (a : Authenticator) (key : PublicKey) (x : Option Member) → member_of g.roster a.node ≡ x
      → signed_step x key (Learn a) ≡ Ok o → Fits authenticator_item (authenticator_value a)
      → IsSignedUnder key a → IsCheckedOwn g o
  learn_at a key None is h text signed = absurd (cc)
  learn_at a key (Some m) is h text signed = by (is_key_of m key) refl h
    where
      by : (b : Bool) → is_key_of m key ≡ b
          → ◌≡◌ {A = Result OwnStep Refusal}
          (cond b (Ok (record { member = m; step = Learn a })) (Err BadSignature)) (Ok o)
          → IsCheckedOwn g o
      by true e h =
          to_own g o m (Learn a)
          (record {
            node = sym (member_node g.roster a.node m is);
            text = text;
            signed = in_roster (watched g m) a is (signed_by m key a e signed);
          })
          h
      by false e h = absurd (cc)

  answer_at : (c : ClosedParts) (x : Option Member) → member_of g.roster c.segment.closing.node ≡ x
      → closed_step x (same_roster c.roster g.roster) (Answer c) ≡ Ok o → IsClosedUnder c → IsCheckedOwn g o
  answer_at c None is h closed = absurd (cc)
  answer_at c (Some m) is h closed = by (same_roster c.roster g.roster) refl h
    where
      by : (b : Bool) → same_roster c.roster g.roster ≡ b
          → ◌≡◌ {A = Result OwnStep Refusal}
          (cond b (Ok (record { member = m; step = Answer c })) (Err BadSignature)) (Ok o)
          → IsCheckedOwn g o
      by true e h =
          let roster : c.roster ≡ g.roster = roster_is c.roster g.roster e in
          to_own g o m (Answer c)
          (record {
            node = sym (member_node g.roster c.segment.closing.node m is);
            roster = roster;
            fits = closed.fits;
            whole = closed.whole;
            closed = subst (λ r. IsClosedIn r c.segment) roster closed.closed;
          })
          h
      by false e h = absurd (cc)

  -- steps that hold nothing of the kind
  other_at : (x : Option Member) (step : Step) → ((m : Member) → IsCheckedStep (watched g m) step)
      → step_of x step ≡ Ok o → IsCheckedOwn g o
  other_at None step all h = absurd (cc)
  other_at (Some m) step all h = to_own g o m step (all m) h

  key_at : (x : Option Member) (key : PublicKey) (step : Step)
      → ((m : Member) → IsCheckedStep (watched g m) step)
      → signed_step x key step ≡ Ok o → IsCheckedOwn g o
  key_at None key step all h = absurd (cc)
  key_at (Some m) key step all h = by (is_key_of m key) h
    where
      by : (b : Bool)
          → ◌≡◌ {A = Result OwnStep Refusal}
          (cond b (Ok (record { member = m; step = step })) (Err BadSignature)) (Ok o)
          → IsCheckedOwn g o
      by true h = to_own g o m step (all m) h
      by false h = absurd (cc)

  sent_at : (x y : Option Member) (key : PublicKey) (step : Step)
      → ((m : Member) → IsCheckedStep (watched g m) step)
      → sent_step x y key step ≡ Ok o → IsCheckedOwn g o
  sent_at None y key step all h = absurd (cc)
  sent_at (Some m) None key step all h = absurd (cc)
  sent_at (Some m) (Some n) key step all h = by (is_key_of m key) h
    where
      by : (b : Bool)
          → ◌≡◌ {A = Result OwnStep Refusal}
          (cond b (Ok (record { member = n; step = step })) (Err BadSignature)) (Ok o)
          → IsCheckedOwn g o
      by true h = to_own g o n step (all n) h
      by false h = absurd (cc)

  -- ---- bytes

  learned_bytes : (bytes : List ℕ) (a : Authenticator) (x : Option Member) → member_of g.roster a.node ≡ x
      → step_of x (Learn a) ≡ Ok o → IsTaken g.roster bytes (packets.Learn a) → IsCheckedOwn g o
  learned_bytes bytes a None is h taken = absurd (cc)
  learned_bytes bytes a (Some m) is h taken =
      to_own g o m (Learn a)
      (record {
        node = sym (member_node g.roster a.node m is);
        text = taken.of_members.well.says.is_content.0;
        signed = taken.signed;
      })
      h

  answered_bytes : (bytes : List ℕ) (s : VersionedParts) (x : Option Member) → member_of g.roster s.closing.node ≡ x
      → step_of x (Answer (record { segment = s; roster = g.roster })) ≡ Ok o
      → IsTaken g.roster bytes (packets.Answer s)
      → IsCheckedOwn g o
  answered_bytes bytes s None is h taken = absurd (cc)
  answered_bytes bytes s (Some m) is h taken =
      let content = taken.of_members.well.says.is_content in
      to_own g o m (Answer (record { segment = s; roster = g.roster }))
      (record {
        node = sym (member_node g.roster s.closing.node m is);
        roster = refl;
        fits = content.fits;
        whole = content.is.1;
        closed = record {
          version = taken.of_members.well.may_be.0;
          ends = taken.of_members.well.may_be.1;
          signed = taken.signed;
        };
      })
      h

  delivered_at : (bytes : List ℕ) (d : Delivery) → delivered_step g.roster d ≡ Ok o → IsTaken g.roster bytes d
      → IsCheckedOwn g o
  delivered_at bytes (packets.Learn a) h taken = learned_bytes bytes a (member_of g.roster a.node) refl h taken
  delivered_at bytes (packets.SendChallenge e) h taken =
      other_at (member_of g.roster e.to) (SendChallenge e) (λ m. tt) h
  delivered_at bytes (packets.Answer s) h taken =
      answered_bytes bytes s (member_of g.roster s.closing.node) refl h taken
  delivered_at bytes (packets.AckIn a) h taken = other_at (member_of g.roster a.by) (AckIn a) (λ m. tt) h

  judged_at : (bytes : List ℕ) (r : Result Delivery checks.Refusal) → IsBytes bytes → judged g.roster bytes ≡ r
      → judged_step g.roster r ≡ Ok o → IsCheckedOwn g o
  judged_at bytes (Ok d) bound is h = delivered_at bytes d h ((as_meant g.roster bytes (Ok d) bound).0 is)
  judged_at bytes (Err refusal) bound is h = absurd (cc)

  -- ---- all events

  -- where an event that may be handed in is a step of somebody, what it holds was checked
  pub checked_event : (e : Event) → whose g.roster e ≡ Ok o → IsEvent e → IsCheckedStep (watched g o.member) o.step
  checked_event (events.Deliver bytes) h is = judged_at bytes (judged g.roster bytes) is refl h
  checked_event (events.Learn a key) h is = learn_at a key (member_of g.roster a.node) refl h is.0 is.1
  checked_event (events.SendChallenge e key) h is =
      sent_at (member_of g.roster e.from) (member_of g.roster e.to) key (SendChallenge e) (λ m. tt) h
  checked_event (events.Answer c) h is = answer_at c (member_of g.roster c.segment.closing.node) refl h is
  checked_event (events.AckIn a key) h is = key_at (member_of g.roster a.by) key (AckIn a) (λ m. tt) h
  checked_event (events.Audit node) h is = other_at (member_of g.roster node) Audit (λ m. tt) h
  checked_event (events.Begin node) h is = other_at (member_of g.roster node) Begin (λ m. tt) h
  checked_event (events.File d) h is = other_at (member_of g.roster d.job.node) (File d) (λ m. tt) h
  checked_event (events.PutBack j) h is = other_at (member_of g.roster j.node) (PutBack j) (λ m. tt) h
  checked_event (events.Forward node) h is = other_at (member_of g.roster node) Forward (λ m. tt) h
  checked_event (events.Ask node q) h is = other_at (member_of g.roster node) (Ask q) (λ m. tt) h

-- ---- own steps

module _ (g : Beginning) (w : Watched) (is : IsInRoster w) (from : IsWatchedFrom g w) where
  one_checked : (e : Event) (r : Reply) (past : Past) (its : Result OwnStep Refusal) (want : Bool)
      → whose w.roster e ≡ its → IsEvent e → AreChecked w past
      → AreChecked w (cond want [] (own_step w.member.node its r) ++ past)
  one_checked e r past its true is_w event rest = rest
  one_checked e r past (Err refusal) false is_w event rest = rest
  one_checked e r past (Ok o) false is_w event rest = by (o.member.node == w.member.node) refl
    where
      by : (b : Bool) → (o.member.node == w.member.node) ≡ b
          → AreChecked w (cond b ((o.step, r) ∷ []) [] ++ past)
      by true same =
          let member : o.member ≡ w.member =
          member_same w e o is is_w (eqb-true o.member.node w.member.node same) in (
            subst (λ x. IsCheckedStep x o.step) (same_watched g w from)
                (subst (λ n. IsCheckedStep (watched g n) o.step) member
                (checked_event g o e (ap (λ ms. whose ms e) from.roster ∙ is_w) event)),
            rest,
          )
      by false differs = rest

  -- all values among a node's own steps of a history were checked
  pub own_checked : (history : History) → IsHistory g history → AreChecked w (own_of w history)
  own_checked [] h = tt
  own_checked (p ∷ history) h =
      one_checked p.0 p.1 (own_of w history) (whose w.roster p.0) (is_want_of_memory p.1) refl h.0
      (own_checked history h.2)
