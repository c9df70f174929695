-- A history's own steps are owed by one another, and so are told by their steps alone.
-- Serves: own_steps_alone.
use Rattle.std.proofs.Common.{◌≡◌, ◌⊎◌, ◌↔◌, inl, inr, ℕ, Bool, true, false, cond, ◌==◌, List, [], ◌∷◌}
use Rattle.std.proofs.Common.{◌++◌, map, Option, Some, None, Result, Ok, Err, refl, sym, ap, ap₂, subst, ◌∙◌}
use Rattle.std.proofs.Common.{eqb-true}
use Rattle.std.proofs.lemmas.Option.{same_Some}
use Rattle.authenticator.specs.Roster.{member_of}
use Rattle.authenticator.specs.declared.member.Member.{Member}
use Rattle.authenticator.specs.declared.refusal.Refusal as checks
use Rattle.authenticator.proofs.Members.{member_node}
use Rattle.witness_spec.specs.packets.Packet.{Delivery}
use Rattle.witness_spec.specs.packets.Packet as packets
use Rattle.witness_spec.specs.packets.Judging.{judged}
use Rattle.witness_spec.specs.Refusals.{Refusal}
use Rattle.witness_spec.specs.Events.{PublicKey, Event}
use Rattle.witness_spec.specs.Events as events
use Rattle.witness_spec.specs.Replies.{Reply, is_want_of_memory}
use Rattle.witness_spec.specs.Starting.{Beginning, KnownBase}
use Rattle.witness_spec.specs.Watched.{Watched, watched, IsInRoster, IsWatchedFrom}
use Rattle.witness_spec.specs.Steps.{Step, OwnStep, Past}
use Rattle.witness_spec.specs.Whose.{step_of, is_key_of, same_roster, signed_step, sent_step, closed_step}
use Rattle.witness_spec.specs.Whose.{delivered_step, judged_step, whose}
use Rattle.witness_spec.specs.Standing.{indication, open_challenges}
use Rattle.witness_spec.specs.Exposing.{evidence}
use Rattle.witness_spec.specs.Owing.{Owes}
use Rattle.witness_spec.specs.Histories.{History, own_step, own_one, OwesTo, IsOwed, IsWanting, own_of}
use Rattle.witness_spec.specs.Histories.{IsHistory}
use Rattle.witness_spec.specs.Histories.{AreOwed}
use Rattle.witness_spec.specs.Laws.{SaysSame}
use Rattle.witness_laws.proofs.Replied.{one_reply, owed_good, good_want, want_refused}

-- ---- the member whose a step is

-- a step is of the member that was looked for
abbrev HasMember : Option Member → OwnStep → Type 0
HasMember x o = x ≡ Some o.member

of_step : (x : Option Member) (step : Step) (o : OwnStep) → step_of x step ≡ Ok o → HasMember x o
of_step None step o h = absurd (cc)
of_step (Some m) step o h = cc

key_cond : (b : Bool) (m : Member) (step : Step) (code : Refusal) (o : OwnStep)
    → ◌≡◌ {A = Result OwnStep Refusal} (cond b (Ok (record { member = m; step = step })) (Err code)) (Ok o)
    → HasMember (Some m) o
key_cond true m step code o h = cc
key_cond false m step code o h = absurd (cc)

of_signed : (x : Option Member) (key : PublicKey) (step : Step) (o : OwnStep)
    → signed_step x key step ≡ Ok o → HasMember x o
of_signed None key step o h = absurd (cc)
of_signed (Some m) key step o h = key_cond (is_key_of m key) m step _ o h

of_sent : (x y : Option Member) (key : PublicKey) (step : Step) (o : OwnStep)
    → sent_step x y key step ≡ Ok o → HasMember y o
of_sent None y key step o h = absurd (cc)
of_sent (Some m) None key step o h = absurd (cc)
of_sent (Some m) (Some n) key step o h = key_cond (is_key_of m key) n step _ o h

of_closed : (x : Option Member) (same : Bool) (step : Step) (o : OwnStep)
    → closed_step x same step ≡ Ok o → HasMember x o
of_closed None same step o h = absurd (cc)
of_closed (Some m) same step o h = key_cond same m step _ o h

-- it's a member of the roster
at_member : (ms : List Member) (node : ℕ) (o : OwnStep) → HasMember (member_of ms node) o
    → member_of ms o.member.node ≡ Some o.member
at_member ms node o h = ap (member_of ms) (member_node ms node o.member h) ∙ h

of_delivery : (ms : List Member) (d : Delivery) (o : OwnStep) → delivered_step ms d ≡ Ok o
    → member_of ms o.member.node ≡ Some o.member
of_delivery ms (packets.Learn a) o h = at_member ms a.node o (of_step _ _ o h)
of_delivery ms (packets.SendChallenge e) o h = at_member ms e.to o (of_step _ _ o h)
of_delivery ms (packets.Answer s) o h = at_member ms s.closing.node o (of_step _ _ o h)
of_delivery ms (packets.AckIn a) o h = at_member ms a.by o (of_step _ _ o h)

of_judged : (ms : List Member) (r : Result Delivery checks.Refusal) (o : OwnStep) → judged_step ms r ≡ Ok o
    → member_of ms o.member.node ≡ Some o.member
of_judged ms (Ok d) o h = of_delivery ms d o h
of_judged ms (Err refusal) o h = absurd (cc)

-- the member whose step an event is stands in the roster under its own number
pub of_member : (ms : List Member) (e : Event) (o : OwnStep) → whose ms e ≡ Ok o
    → member_of ms o.member.node ≡ Some o.member
of_member ms (events.Deliver bytes) o h = of_judged ms (judged ms bytes) o h
of_member ms (events.Learn a key) o h = at_member ms a.node o (of_signed _ key _ o h)
of_member ms (events.SendChallenge e key) o h =
    at_member ms e.to o (of_sent (member_of ms e.from) _ key _ o h)
of_member ms (events.Answer c) o h =
    at_member ms c.segment.closing.node o (of_closed _ (same_roster c.roster ms) _ o h)
of_member ms (events.AckIn a key) o h = at_member ms a.by o (of_signed _ key _ o h)
of_member ms (events.Audit node) o h = at_member ms node o (of_step _ _ o h)
of_member ms (events.Begin node) o h = at_member ms node o (of_step _ _ o h)
of_member ms (events.File d) o h = at_member ms d.job.node o (of_step _ _ o h)
of_member ms (events.PutBack j) o h = at_member ms j.node o (of_step _ _ o h)
of_member ms (events.Forward node) o h = at_member ms node o (of_step _ _ o h)
of_member ms (events.Ask node q) o h = at_member ms node o (of_step _ _ o h)

-- the member with a number is one
pub same_member : (w : Watched) (e : Event) (o : OwnStep) → IsInRoster w
    → whose w.roster e ≡ Ok o → o.member.node ≡ w.member.node → o.member ≡ w.member
same_member w e o is its same =
    same_Some o.member w.member (sym (of_member w.roster e o its) ∙ (ap (member_of w.roster) same ∙ is.is_member))

-- ---- the member that is watched

-- a node that is watched from a beginning is what the beginning gives of its member
pub same_watched : (g : Beginning) (w : Watched) → IsWatchedFrom g w → watched g w.member ≡ w
same_watched g w from =
    ap₂ (λ (ms : List Member) (b : Option KnownBase). record w { roster = ms; base = b }) from.roster from.base

-- the reply to an event that is a step of the node is owed exactly if it is to that step
pub owed_own : (g : Beginning) (w : Watched) (history : History) (e : Event) (step : Step) (reply : Reply)
    → IsWatchedFrom g w → whose w.roster e ≡ Ok (record { member = w.member; step = step })
    → IsOwed g history e reply ↔ Owes w (own_of w history) step reply
owed_own g w history e step reply from its =
    let o : OwnStep = record { member = w.member; step = step } in
    let told : whose g.roster e ≡ Ok o = ap (λ ms. whose ms e) from.roster ∙ its in
    let same = same_watched g w from in (
      λ h. subst (λ x. Owes x (own_of x history) step reply) same
          (subst (OwesTo g history e reply) told h),
      λ h. subst (OwesTo g history e reply) (sym told)
          (subst (λ x. Owes x (own_of x history) step reply) (sym same) h),
    )

-- ---- own steps are owed

own_err : (b : Bool) → ◌≡◌ {A = Past} (cond b [] []) []
own_err true = refl
own_err false = refl

-- nobody's step
pub none_own : (ms : List Member) (node : ℕ) (e : Event) (r : Reply) (code : Refusal) → whose ms e ≡ Err code
    → own_one ms node (e, r) ≡ []
none_own ms node e r code w =
    ap (λ x. cond (is_want_of_memory r) [] (own_step node x r)) w ∙ own_err (is_want_of_memory r)

-- another's
pub other_own : (ms : List Member) (node : ℕ) (e : Event) (r : Reply) (o : OwnStep) → whose ms e ≡ Ok o
    → (o.member.node == node) ≡ false → own_one ms node (e, r) ≡ []
other_own ms node e r o w differs =
    ap (λ x. cond (is_want_of_memory r) [] (own_step node x r)) w
    ∙ (ap (λ b. cond (is_want_of_memory r) [] (cond b ((o.step, r) ∷ []) [])) differs
    ∙ own_err (is_want_of_memory r))

-- an event that was answered as out of memory is nobody's step
pub want_own : (ms : List Member) (node : ℕ) (e : Event) (r : Reply) → is_want_of_memory r ≡ true
    → own_one ms node (e, r) ≡ []
want_own ms node e r want = ap (λ b. cond b [] (own_step node (whose ms e) r)) want

-- its own
pub its_own : (ms : List Member) (node : ℕ) (e : Event) (r : Reply) (o : OwnStep) → whose ms e ≡ Ok o
    → (o.member.node == node) ≡ true → is_want_of_memory r ≡ false
    → own_one ms node (e, r) ≡ (o.step, r) ∷ []
its_own ms node e r o w same want =
    ap (λ b. cond b [] (own_step node (whose ms e) r)) want
    ∙ (ap (λ x. own_step node x r) w ∙ ap (λ b. cond b ((o.step, r) ∷ []) []) same)

module _ (g : Beginning) (w : Watched) (is : IsInRoster w) (from : IsWatchedFrom g w) where
  -- with one event more
  with_one : (p : Event × Reply) (history : History) (one : Past) → own_one w.roster w.member.node p ≡ one
      → AreOwed w (one ++ own_of w history) → AreOwed w (own_of w (p ∷ history))
  with_one p history one e h = subst (λ x. AreOwed w (x ++ own_of w history)) (sym e) h

  its_owed : (e : Event) (r : Reply) (history : History) (o : OwnStep) (b : Bool) → whose w.roster e ≡ Ok o
      → (o.member.node == w.member.node) ≡ b → OwesTo g history e r (Ok o)
      → AreOwed w (own_of w history)
      → AreOwed w (own_of w ((e, r) ∷ history))
  its_owed e r history o true told same owed rest =
      let member : o.member ≡ w.member =
      same_member w e o is told (eqb-true o.member.node w.member.node same) in
      let here : Owes w (own_of w history) o.step r =
      subst (λ x. Owes x (own_of x history) o.step r) (same_watched g w from)
      (subst (λ x. Owes (watched g x) (own_of (watched g x) history) o.step r) member owed) in
      with_one (e, r) history ((o.step, r) ∷ [])
      (its_own w.roster w.member.node e r o told same
      (good_want r (owed_good w (own_of w history) o.step r here)))
      (here, rest)
  its_owed e r history o false told differs owed rest =
      with_one (e, r) history [] (other_own w.roster w.member.node e r o told differs) rest

  one_owed : (e : Event) (r : Reply) (history : History) (told : Result OwnStep Refusal)
      → whose w.roster e ≡ told
      → OwesTo g history e r told ⊎ IsWanting e r → AreOwed w (own_of w history)
      → AreOwed w (own_of w ((e, r) ∷ history))
  one_owed e r history told is_w (inr wanting) rest =
      with_one (e, r) history []
      (want_own w.roster w.member.node e r (ap is_want_of_memory wanting.is ∙ want_refused e)) rest
  one_owed e r history (Err code) is_w (inl owed) rest =
      with_one (e, r) history [] (none_own w.roster w.member.node e r code is_w) rest
  one_owed e r history (Ok o) is_w (inl owed) rest =
      its_owed e r history o (o.member.node == w.member.node) is_w refl owed rest

  -- a node's own steps in a history have the replies that are owed by its earlier ones
  pub own_owed : (history : History) → IsHistory g history → AreOwed w (own_of w history)
  own_owed [] h = tt
  own_owed (p ∷ history) h =
      one_owed p.0 p.1 history (whose w.roster p.0) refl
      (subst (λ ms. OwesTo g history p.0 p.1 (whose ms p.0) ⊎ IsWanting p.0 p.1) from.roster h.1)
      (own_owed history h.2)

-- ---- replies by steps

-- own steps that are the same, with the replies that are owed, have the same replies
pub same_replies : (w : Watched) (one two : Past) → AreOwed w one → AreOwed w two
    → map (λ p. p.0) one ≡ map (λ p. p.0) two → one ≡ two
same_replies w [] [] g h e = refl
same_replies w [] (q ∷ qs) g h e = absurd (cc)
same_replies w (p ∷ ps) [] g h e = absurd (cc)
same_replies w (p ∷ ps) (q ∷ qs) g h e =
    let heads : p.0 ≡ q.0 = cc in
    let tails : map (λ (x : Step × Reply). x.0) ps ≡ map (λ (x : Step × Reply). x.0) qs = cc in
    let rest : ps ≡ qs = same_replies w ps qs g.1 h.1 tails in
    let here : Owes w qs q.0 p.1 =
    subst (λ s. Owes w qs s p.1) heads (subst (λ x. Owes w x p.0 p.1) rest g.0) in
    let replies : p.1 ≡ q.1 = one_reply w qs q.0 p.1 q.1 here h.0 in
    ap₂ (λ (x : Step × Reply) (xs : Past). x ∷ xs) (ap₂ (λ (x : Step) (y : Reply). (x, y)) heads replies) rest

-- ---- all that is said

next_same : (g h : Beginning) (w : Watched) (one two : History) → IsWatchedFrom g w → IsWatchedFrom h w
    → own_of w one ≡ own_of w two
    → (event : Event) (step : Step) (reply : Reply)
    → whose w.roster event ≡ Ok (record { member = w.member; step = step })
    → IsOwed g one event reply → IsOwed h two event reply
next_same g h w one two from other same event step reply its owed =
    (owed_own h w two event step reply other its).1
    (subst (λ x. Owes w x step reply) same ((owed_own g w one event step reply from its).0 owed))

-- after histories with the same own steps of a node, all that is said of it is the same
pub says_same : (g h : Beginning) (w : Watched) (one two : History) → IsWatchedFrom g w → IsWatchedFrom h w
    → own_of w one ≡ own_of w two → SaysSame g h w one two
says_same g h w one two from other same = record {
  replies = same;
  indications = ap (indication w) same;
  challenges = ap open_challenges same;
  evidences = ap (evidence w) same;
  next = λ event step reply its. (
    next_same g h w one two from other same event step reply its,
    next_same h g w two one other from (sym same) event step reply its,
  );
}
