-- What is known of a member's book after its own steps of a history.
-- Serves: all laws here.
use Rattle.std.proofs.Common.{◌≡◌, inl, inr, ℕ, Bool, true, false, cond, ◌==◌, List, [], ◌∷◌, ◌++◌, Option}
use Rattle.std.proofs.Common.{Some, None, Result, Ok, Err, refl, sym, ap, subst, ◌∙◌, arith, eqb-true, eq-eqb}
use Rattle.std.specs.FinMap as finite
use Rattle.std.specs.Ordering.{nat_cmp}
use Rattle.std.specs.Prelude.{◌+◌, ◌-◌, ◌≤◌, is_some, ◌<◌, IsTrue, nat_lt}
use Rattle.std.proofs.lemmas.Option.{same_Some}
use Rattle.std.proofs.lemmas.Bool.{and_parts, ltb-true, ltb-false, lt-ltb, true≢false}
use Rattle.authenticator.specs.Roster.{member_of, member_values, rises_above}
use Rattle.authenticator.specs.declared.member.Kind.{Kind}
use Rattle.authenticator.specs.declared.member.Kind.TheVariants as kinds
use Rattle.authenticator.specs.declared.member.LogVersion.{LogVersion}
use Rattle.authenticator.specs.declared.member.Member.{Member}
use Rattle.authenticator.specs.declared.refusal.Refusal as checks
use Rattle.witness_laws.specs.packets.Packet.{Delivery}
use Rattle.witness_laws.specs.packets.Packet as packets
use Rattle.witness_laws.specs.packets.Judging.{judged}
use Rattle.replay_spec.specs.Opening.{opening_by}
use Rattle.secure_log.specs.LogEntries.Chain.{IsAmong, zeros}
use Rattle.witness_laws.specs.witness_spec.Refusals.{Refusal, BadSignature}
use Rattle.witness_laws.specs.witness_spec.Events.{PublicKey, Event, IsEvent}
use Rattle.witness_laws.specs.witness_spec.Events as events
use Rattle.witness_laws.specs.witness_spec.Replies.{Reply, is_want_of_memory}
use Rattle.witness_laws.specs.witness_spec.Pairs.{first_pair}
use Rattle.witness_laws.specs.witness_spec.Starting.{KnownBase, Beginning, IsBaseAt, IsBeginning, IsKnownBase}
use Rattle.witness_laws.specs.witness_spec.Starting.{IsOfSome, base_of, node_of, start_number, start_pairs}
use Rattle.witness_laws.specs.witness_spec.Starting.{start_state, is_below}
use Rattle.witness_laws.specs.witness_spec.Watched.{Watched, watched, IsInRoster, IsWatchedFrom}
use Rattle.witness_laws.specs.witness_spec.Steps.{Step, Learn, SendChallenge, Answer, AckIn, Audit, Begin}
use Rattle.witness_laws.specs.witness_spec.Steps.{File, PutBack}
use Rattle.witness_laws.specs.witness_spec.Steps.{Forward}
use Rattle.witness_laws.specs.witness_spec.Steps.{Ask, OwnStep, Past}
use Rattle.witness_laws.specs.witness_spec.Whose.{step_of, is_key_of, same_roster, signed_step, sent_step}
use Rattle.witness_laws.specs.witness_spec.Whose.{closed_step}
use Rattle.witness_laws.specs.witness_spec.Whose.{delivered_step, judged_step, whose}
use Rattle.witness_laws.specs.witness_spec.Histories.{History, own_step, own, IsHistory, AreOwed, own_of}
use Rattle.witness_laws.proofs.OwnSteps.{own_owed}
use Rattle.witness_laws.proofs.Checked.{AreChecked, own_checked}
use Rattle.witness_laws.proofs.OfEvidence.Before.{found}
use Rattle.witness_laws.proofs.OfEvidence.Starts.{base_mark, none_exposed, not_below}
use Rattle.witness_laws.proofs.OfEvidence.Told.{Told, Without, With, told}
use Rattle.witness_book_laws.specs.Books.{base_pairs, book_starting}
use Rattle.witness_book_laws.specs.Going.{book_after_steps}
use Rattle.witness_book_laws.specs.Fitting.{SendsLieBelowIn, IsStart}
use Rattle.witness_book_laws.proofs.Kept.{all_of}
use Rattle.witness_book_laws.proofs.Quiet.{Exposure, Hidden, Open}
use Rattle.witness_book_laws.proofs.Known.{Known}
use Rattle.witness_book_laws.proofs.Steps.{IsDoneStep, known_on}

-- ---- done values

-- each done value's verdict is its own
abbrev pub AreDone : Past → Type 0
AreDone [] = Unit {0}
AreDone (p ∷ past) = IsDoneStep p.0 × AreDone past

module _ (o : OwnStep) where
  same_step : (m : Member) (step : Step) → IsDoneStep step
      → ◌≡◌ {A = Result OwnStep Refusal} (Ok (record { member = m; step = step })) (Ok o) → IsDoneStep o.step
  same_step m step done h =
      let same : record { member = m; step = step } ≡ o = cc in subst (λ x. IsDoneStep x.step) same done

  by_step : (x : Option Member) (step : Step) → IsDoneStep step → step_of x step ≡ Ok o → IsDoneStep o.step
  by_step None step done h = absurd (cc)
  by_step (Some m) step done h = same_step m step done h

  by_key : (b : Bool) (m : Member) (step : Step) → IsDoneStep step
      → ◌≡◌ {A = Result OwnStep Refusal} (cond b (Ok (record { member = m; step = step })) (Err BadSignature))
      (Ok o)
      → IsDoneStep o.step
  by_key true m step done h = same_step m step done h
  by_key false m step done h = absurd (cc)

  by_signed : (x : Option Member) (key : PublicKey) (step : Step) → IsDoneStep step
      → signed_step x key step ≡ Ok o → IsDoneStep o.step
  by_signed None key step done h = absurd (cc)
  by_signed (Some m) key step done h = by_key (is_key_of m key) m step done h

  by_sent : (x y : Option Member) (key : PublicKey) (step : Step) → IsDoneStep step
      → sent_step x y key step ≡ Ok o → IsDoneStep o.step
  by_sent None y key step done h = absurd (cc)
  by_sent (Some m) None key step done h = absurd (cc)
  by_sent (Some m) (Some n) key step done h = by_key (is_key_of m key) n step done h

  by_closed : (x : Option Member) (same : Bool) (step : Step) → IsDoneStep step
      → closed_step x same step ≡ Ok o
      → IsDoneStep o.step
  by_closed None same step done h = absurd (cc)
  by_closed (Some m) same step done h = by_key same m step done h

  by_delivery : (ms : List Member) (d : Delivery) → delivered_step ms d ≡ Ok o → IsDoneStep o.step
  by_delivery ms (packets.Learn a) h =
      by_step (member_of ms a.node) (Learn a) tt h
  by_delivery ms (packets.SendChallenge e) h = by_step (member_of ms e.to) (SendChallenge e) tt h
  by_delivery ms (packets.Answer s) h =
      by_step (member_of ms s.closing.node) (Answer (record { segment = s; roster = ms })) tt h
  by_delivery ms (packets.AckIn a) h = by_step (member_of ms a.by) (AckIn a) tt h

  by_judged : (ms : List Member) (r : Result Delivery checks.Refusal) → judged_step ms r ≡ Ok o
      → IsDoneStep o.step
  by_judged ms (Ok d) h = by_delivery ms d h
  by_judged ms (Err refusal) h = absurd (cc)

  -- the step that an event is has a verdict of its own
  pub done_event : (ms : List Member) (e : Event) → whose ms e ≡ Ok o → IsEvent e → IsDoneStep o.step
  done_event ms (events.Deliver bytes) h is = by_judged ms (judged ms bytes) h
  done_event ms (events.Learn a key) h is =
      by_signed (member_of ms a.node) key (Learn a) tt h
  done_event ms (events.SendChallenge e key) h is =
      by_sent (member_of ms e.from) (member_of ms e.to) key (SendChallenge e) tt h
  done_event ms (events.Answer c) h is =
      by_closed (member_of ms c.segment.closing.node) (same_roster c.roster ms) (Answer c) tt h
  done_event ms (events.AckIn a key) h is = by_signed (member_of ms a.by) key (AckIn a) tt h
  done_event ms (events.Audit node) h is = by_step (member_of ms node) Audit tt h
  done_event ms (events.Begin node) h is = by_step (member_of ms node) Begin tt h
  done_event ms (events.File d) h is = by_step (member_of ms d.job.node) (File d) is.1 h
  done_event ms (events.PutBack j) h is = by_step (member_of ms j.node) (PutBack j) tt h
  done_event ms (events.Forward node) h is = by_step (member_of ms node) Forward tt h
  done_event ms (events.Ask node q) h is = by_step (member_of ms node) (Ask q) tt h

one_done : (ms : List Member) (node : ℕ) (e : Event) (r : Reply) (past : Past) (w : Result OwnStep Refusal)
    (want : Bool) → whose ms e ≡ w → IsEvent e → AreDone past
    → AreDone (cond want [] (own_step node w r) ++ past)
one_done ms node e r past w true is_w event rest = rest
one_done ms node e r past (Err refusal) false is_w event rest = rest
one_done ms node e r past (Ok o) false is_w event rest = by (o.member.node == node)
  where
    by : (b : Bool) → AreDone (cond b ((o.step, r) ∷ []) [] ++ past)
    by true = (done_event o ms e is_w event, rest)
    by false = rest

all_done : (g : Beginning) (ms : List Member) (node : ℕ) (history : History) → IsHistory g history
    → AreDone (own ms node history)
all_done g ms node [] h = tt
all_done g ms node (p ∷ history) h =
    one_done ms node p.0 p.1 (own ms node history) (whose ms p.0) (is_want_of_memory p.1) refl h.0
    (all_done g ms node history h.2)

-- all done values among a node's own steps of a history have verdicts of their own
pub own_done : (g : Beginning) (w : Watched) → IsWatchedFrom g w → (history : History) → IsHistory g history
    → AreDone (own_of w history)
own_done g w from history h = all_done g w.roster w.member.node history h

-- ---- what is known

exposure_of : (w : Watched) (past : Past) → Told w past → Exposure w past
exposure_of w past (Without none is audited) = Hidden none is
exposure_of w past (With g some is good) = Open (record { node = w.member.node; charge = g }) some is

no_sends : (v : LogVersion) (kind : Kind) (node : ℕ) → SendsLieBelowIn v (opening_by kind node) 1
no_sends v kinds.Server node = λ k h. absurd (true≢false (sym h ∙ ap is_some (finite.get-empty nat_cmp k)))
no_sends v kinds.Client node = λ k h. absurd (true≢false (sym h ∙ ap is_some (finite.get-empty nat_cmp k)))

-- the pairs that a book shows at first are those of the contract
pub first_pairs : (base : Option KnownBase) → (first_pair ∷ base_pairs base) ≡ start_pairs base
first_pairs None = refl
first_pairs (Some b) = refl

module _ (ms : List Member) (m : Member) where
  first_sends : (base : Option KnownBase) → IsBaseAt ms m base
      → SendsLieBelowIn m.log_version (start_state m base) (start_number base + 1)
  first_sends None known = no_sends m.log_version m.kind m.node
  first_sends (Some b) known =
      subst (λ v. SendsLieBelowIn v b.state (b.parts.at + 1)) known.good.of_member.log_version
      (λ word h. omega (arith, known.good.state.sends word h))

  first_start : (base : Option KnownBase) → IsBaseAt ms m base → IsStart base
  first_start base known = record {
    own = not_below ms m base known (start_number base) (omega arith);
    marks = λ n above low. by base known n above low;
  }
    where
      by : (base : Option KnownBase) → IsBaseAt ms m base → (n : ℕ) → is_below base n ≡ false
          → n ≤ start_number base → (mark : List ℕ) × IsAmong (n, mark) (start_pairs base)
      by None known n above low =
          let none : n ≡ 0 = omega (arith, low) in (zeros, inl (ap (λ (k : ℕ). (k, zeros)) none))
      by (Some b) known n above low =
          let has = base_mark ms m b known n (ltb-false n (b.parts.showing.first - 1) above) low in
          (has.mark, inr has.there)

-- at first the member's book is known
pub at_first : (w : Watched) → IsInRoster w → Known w [] (book_starting w.member w.base)
at_first w is = record {
  of = record {
    of_member = record { node = refl; version = refl; base = refl };
    stands = record {
      end = refl;
      stage = refl;
      begun = refl;
      learned = λ a. (λ i. i, λ i. i);
      segments = λ s. (λ i. i, λ i. i);
      challenges = refl;
      outbox = refl;
      evidence = refl;
      pairs = λ p. (subst (IsAmong p) (first_pairs w.base), subst (IsAmong p) (sym (first_pairs w.base)));
    };
  };
  fits = record {
    begun = omega arith;
    started = first_start w.roster w.member w.base is.base;
    above = λ a i. absurd i;
    differ = tt;
    whole = λ s i. absurd i;
    version = λ s i. absurd i;
    tiles = record { audited = []; more = []; are = refl; tile = refl; rest = inl refl };
    agrees = tt;
    sends = first_sends w.roster w.member w.base is.base;
  };
  kept_differ = tt;
  exposure = Hidden refl (none_exposed w is);
  audited = refl;
  sent = omega arith;
  roster = tt;
}

-- after own steps with the replies that are owed, of values that were checked
pub known : (w : Watched) (past : Past) → IsInRoster w → AreOwed w past
    → AreChecked w past → AreDone past → Known w past (book_after_steps w past)
known w [] is owed checked done = at_first w is
known w (p ∷ past) is owed checked done =
    known_on w past (book_after_steps w past) (known w past is owed.1 checked.1 done.1) p.0 p.1 is
    owed.0 checked.0 done.0 (exposure_of w (p ∷ past) (told w (p ∷ past) is owed checked))

-- whether a member is exposed after a history
pub exposed_or_not : (g : Beginning) (w : Watched) (history : History) → IsInRoster w → IsWatchedFrom g w
    → IsHistory g history → Exposure w (own_of w history)
exposed_or_not g w history is from h =
    exposure_of w (own_of w history)
    (told w (own_of w history) is (own_owed g w is from history h) (own_checked g w is from history h))

-- after a member's own steps of a history
pub own_known : (g : Beginning) (w : Watched) (history : History) → IsInRoster w → IsWatchedFrom g w
    → IsHistory g history → Known w (own_of w history) (book_after_steps w (own_of w history))
own_known g w history is from h =
    known w (own_of w history) is (own_owed g w is from history h) (own_checked g w is from history h)
    (own_done g w from history h)

-- ---- members of a roster

later_node : (low : ℕ) (ms : List Member) (m : Member) → IsTrue (rises_above low (member_values ms))
    → IsAmong m ms → IsTrue (nat_lt low m.node)
later_node low [] m rise i = absurd i
later_node low (x ∷ ms) m rise (inl e) =
    subst (λ (y : Member). IsTrue (nat_lt low y.node)) (sym e)
    (and_parts (nat_lt low x.node) (rises_above x.node (member_values ms)) rise).0
later_node low (x ∷ ms) m rise (inr i) =
    let both = and_parts (nat_lt low x.node) (rises_above x.node (member_values ms)) rise in
    lt-ltb low m.node
    (omega (arith, ltb-true low x.node both.0, ltb-true x.node m.node (later_node x.node ms m both.1 i)))

-- each member of a roster is the one with its number
pub its_member : (low : ℕ) (ms : List Member) (m : Member) → IsTrue (rises_above low (member_values ms))
    → IsAmong m ms → member_of ms m.node ≡ Some m
its_member low [] m rise i = absurd i
its_member low (x ∷ ms) m rise (inl e) =
    ap (λ (y : Member). cond (x.node == y.node) (Some x) (member_of ms y.node)) e
    ∙ (ap (λ b. cond b (Some x) (member_of ms x.node)) (eq-eqb x.node x.node refl) ∙ ap (λ y. Some y) (sym e))
its_member low (x ∷ ms) m rise (inr i) =
    let both = and_parts (nat_lt low x.node) (rises_above x.node (member_values ms)) rise in
    let less = ltb-true x.node m.node (later_node x.node ms m both.1 i) in
    ap (λ b. cond b (Some x) (member_of ms m.node)) (differs x.node m.node (x.node == m.node) refl less)
    ∙ its_member x.node ms m both.1 i
  where
    differs : (a b : ℕ) (c : Bool) → (a == b) ≡ c → a < b → c ≡ false
    differs a b false e less = refl
    differs a b true e less = absurd (omega (arith, less, eqb-true a b e))

-- the base that a beginning has of a member is of it
pub base_known : (g : Beginning) (m : Member) → IsBeginning g → member_of g.roster m.node ≡ Some m
    → IsBaseAt g.roster m (base_of g m.node)
base_known g m begins is = by (base_of g m.node) refl
  where
    by : (o : Option KnownBase) → base_of g m.node ≡ o → IsBaseAt g.roster m o
    by None e = tt
    by (Some b) e =
        let f = found (λ (x : KnownBase). node_of x == m.node) g.bases b e in
        let some = all_of (IsOfSome g.roster) g.bases b begins.known f.0 in
        let node : b.parts.showing.node ≡ m.node = eqb-true b.parts.showing.node m.node f.1 in
        let same : some.member ≡ m =
        same_Some _ _ (sym some.known.good.is_member ∙ (ap (member_of g.roster) node ∙ is)) in
        subst (λ x. IsKnownBase g.roster x b) same some.known

-- so each member of a beginning's roster is watched under the roster
pub in_roster : (g : Beginning) (m : Member) → IsBeginning g → member_of g.roster m.node ≡ Some m
    → IsInRoster (watched g m)
in_roster g m begins is = record { is_member = is; base = base_known g m begins is }
