-- What is left out of every node's own steps changes nothing.
-- Serves: left_out_changes_nothing.
use Rattle.std.proofs.Common.{◌≡◌, ◌≢◌, ℕ, Bool, true, false, not, ◌==◌, ◌&&◌, nat_le, List, [], ◌∷◌, ◌++◌}
use Rattle.std.proofs.Common.{Option, Some, None, Result, Ok, Err, refl, sym, ap, subst, ◌∙◌}
use Rattle.std.proofs.Common.{eqb-true, eq-eqb, leb-true, cond}
use Rattle.std.proofs.lemmas.Bool.{and_parts, true≢false}
use Rattle.authenticator.specs.Roster.{member_of}
use Rattle.authenticator.specs.declared.member.Member.{Member}
use Rattle.authenticator.specs.declared.refusal.Refusal.TheVariants as checking
use Rattle.witness_spec.specs.packets.Packet.{Delivery, delivery_of, delivery_shows}
use Rattle.witness_spec.specs.packets.Packet as packets
use Rattle.authenticator.specs.Signing.{is_signed_in}
use Rattle.witness_spec.specs.packets.Judging.{may_be, is_of_members, judged_option, judged}
use Rattle.witness_spec.specs.Refusals.{Refusal, refusal_number, BadSignature, NoMemory}
use Rattle.witness_spec.specs.Events.{PublicKey, Event}
use Rattle.witness_spec.specs.Events as events
use Rattle.witness_spec.specs.Replies.{Reply, is_want, is_want_of_memory}
use Rattle.witness_spec.specs.Starting.{Beginning}
use Rattle.witness_spec.specs.Watched.{watched}
use Rattle.witness_spec.specs.Steps.{Step, OwnStep}
use Rattle.witness_spec.specs.Whose.{step_of, is_key_of, same_roster, signed_step, sent_step, closed_step}
use Rattle.witness_spec.specs.Whose.{delivered_step, judged_step, whose}
use Rattle.witness_spec.specs.Owing.{Owes}
use Rattle.witness_spec.specs.Histories.{History, own_one, own, OwesTo, IsOwed, IsWanting, BookParts}
use Rattle.witness_spec.specs.Histories.{StandsFor}
use Rattle.witness_spec.specs.Histories.{StandEach}
use Rattle.witness_spec.specs.Laws.{ChangesNothing, IsLeftOut, IsTaken}
use Rattle.witness_laws.proofs.Replied.{in_table, is_good, owed_good, good_want, good_refused, want_refused}
use Rattle.witness_laws.proofs.OwnSteps.{none_own, other_own, want_own, its_own}

-- ---- books stay

-- books that stood for one history stand for another with the same own steps
stand_on : (g : Beginning) (one two : History) → ((node : ℕ) → own g.roster node two ≡ own g.roster node one)
    → (members : List Member) (books : List BookParts) → StandEach g one members books
    → StandEach g two members books
stand_on g one two same [] [] h = tt
stand_on g one two same [] (b ∷ books) h = h
stand_on g one two same (m ∷ members) [] h = h
stand_on g one two same (m ∷ members) (b ∷ books) h = (
  subst (λ x. StandsFor (watched g m) x b) (sym (same m.node)) h.0,
  stand_on g one two same members books h.1,
)

no_change : (g : Beginning) (history : History) (e : Event) (r : Reply)
    → ((node : ℕ) → own_one g.roster node (e, r) ≡ []) → ChangesNothing g history e r
no_change g history e r none =
    let same : (node : ℕ) → own g.roster node ((e, r) ∷ history) ≡ own g.roster node history =
    λ node. ap (λ x. x ++ own g.roster node history) (none node) in
    record {
      own_steps = same;
      books = λ books h. stand_on g history ((e, r) ∷ history) same g.roster books h;
    }

-- an event that was answered as out of memory is in nobody's own steps, and books stand as before
pub want_changes : (g : Beginning) (history : History) (e : Event) (r : Reply) → IsWanting e r
    → ChangesNothing g history e r
want_changes g history e r wanting =
    no_change g history e r (λ node. want_own g.roster node e r (ap is_want_of_memory wanting.is ∙ want_refused e))

-- ---- refusals 1 to 3

-- a refusal is of one by event and roster alone
abbrev is_early : Refusal → Bool
is_early r = nat_le 1 (refusal_number r) && nat_le (refusal_number r) 3

abbrev IsEarly : Result OwnStep Refusal → Type 0
IsEarly (Ok o) = Unit {0}
IsEarly (Err r) = is_early r ≡ true

early_step : (x : Option Member) (step : Step) → IsEarly (step_of x step)
early_step None step = refl
early_step (Some m) step = tt

early_cond : (b : Bool) (o : OwnStep)
    → IsEarly (cond b (Ok o) (Err BadSignature))
early_cond true o = tt
early_cond false o = refl

early_signed : (x : Option Member) (key : PublicKey) (step : Step) → IsEarly (signed_step x key step)
early_signed None key step = refl
early_signed (Some m) key step = early_cond (is_key_of m key) _

early_sent : (x y : Option Member) (key : PublicKey) (step : Step) → IsEarly (sent_step x y key step)
early_sent None y key step = refl
early_sent (Some m) None key step = refl
early_sent (Some m) (Some n) key step = early_cond (is_key_of m key) _

early_closed : (x : Option Member) (same : Bool) (step : Step) → IsEarly (closed_step x same step)
early_closed None same step = refl
early_closed (Some m) same step = early_cond same _

early_delivered : (ms : List Member) (d : Delivery) → IsEarly (delivered_step ms d)
early_delivered ms (packets.Learn a) = early_step (member_of ms a.node) _
early_delivered ms (packets.SendChallenge e) = early_step (member_of ms e.to) _
early_delivered ms (packets.Answer s) = early_step (member_of ms s.closing.node) _
early_delivered ms (packets.AckIn a) = early_step (member_of ms a.by) _

early_judged : (ms : List Member) (d : Delivery) (a b c : Bool)
    → IsEarly (judged_step ms
    (cond a (cond b (cond c (Ok d) (Err checking.BadSignature)) (Err checking.UnknownNode))
    (Err checking.Garbage)))
early_judged ms d true true true = early_delivered ms d
early_judged ms d true true false = refl
early_judged ms d true false c = refl
early_judged ms d false b c = refl

early_option : (ms : List Member) (d : Option Delivery) → IsEarly (judged_step ms (judged_option ms d))
early_option ms None = refl
early_option ms (Some d) =
    early_judged ms d (may_be ms d) (is_of_members ms d) (is_signed_in ms (delivery_shows d))

early_bytes : (ms : List Member) (bytes : List ℕ) → IsEarly (judged_step ms (judged ms bytes))
unfolding judged
early_bytes ms bytes = early_option ms (delivery_of bytes)

early : (ms : List Member) (e : Event) → IsEarly (whose ms e)
early ms (events.Deliver bytes) = early_bytes ms bytes
early ms (events.Learn a key) = early_signed (member_of ms a.node) key _
early ms (events.SendChallenge e key) = early_sent (member_of ms e.from) (member_of ms e.to) key _
early ms (events.Answer c) = early_closed (member_of ms c.segment.closing.node) (same_roster c.roster ms) _
early ms (events.AckIn a key) = early_signed (member_of ms a.by) key _
early ms (events.Audit node) = early_step (member_of ms node) _
early ms (events.Begin node) = early_step (member_of ms node) _
early ms (events.File d) = early_step (member_of ms d.job.node) _
early ms (events.PutBack j) = early_step (member_of ms j.node) _
early ms (events.Forward node) = early_step (member_of ms node) _
early ms (events.Ask node q) = early_step (member_of ms node) _

-- an event that is nobody's step has one refusal after every history, numbered 1 to 3, and changes nothing
pub left_out : (g : Beginning) (e : Event) (refusal : Refusal) → whose g.roster e ≡ Err refusal
    → IsLeftOut g e refusal
left_out g e refusal w =
    let low : is_early refusal ≡ true = subst IsEarly w (early g.roster e) in
    let both = and_parts (nat_le 1 (refusal_number refusal)) (nat_le (refusal_number refusal) 3) low in
    record {
      reply = λ history reply. (
        subst (OwesTo g history e reply) w,
        subst (OwesTo g history e reply) (sym w),
      );
      some = leb-true 1 (refusal_number refusal) both.0;
      few = leb-true (refusal_number refusal) 3 both.1;
      changes = λ history reply. no_change g history e reply (λ node. none_own g.roster node e reply refusal w);
    }

-- ---- all others

not_same : (a b : ℕ) → b ≢ a → (a == b) ≡ false
not_same a b h = by (a == b) refl
  where
    by : (c : Bool) → (a == b) ≡ c → c ≡ false
    by true e = absurd (h (sym (eqb-true a b e)))
    by false e = refl

not_want : (r : Refusal) → not (is_want r) ≡ true → r ≢ NoMemory
not_want r h same = true≢false (sym h ∙ ap (λ x. not (is_want x)) same)

-- every other event is a step of its node alone, and its refusals are numbered 4 or more and not NoMemory
pub taken : (g : Beginning) (history : History) (e : Event) (r : Reply) (o : OwnStep) → whose g.roster e ≡ Ok o
    → IsOwed g history e r → IsTaken g history e r o
taken g history e r o w owed =
    let here : Owes (watched g o.member) (own g.roster o.member.node history) o.step r =
    subst (OwesTo g history e r) w owed in
    let good : is_good r ≡ true =
    owed_good (watched g o.member) (own g.roster o.member.node history) o.step r here in
    let same : (o.member.node == o.member.node) ≡ true = eq-eqb o.member.node o.member.node refl in
    record {
      own_step = ap (λ x. x ++ own g.roster o.member.node history)
          (its_own g.roster o.member.node e r o w same (good_want r good));
      others = λ node other. ap (λ x. x ++ own g.roster node history)
          (other_own g.roster node e r o w (not_same o.member.node node other));
      refusals = λ refusal is.
          let low : in_table refusal ≡ true = sym (good_refused e refusal) ∙ (ap is_good (sym is) ∙ good) in
          let both = and_parts (nat_le 4 (refusal_number refusal)) (not (is_want refusal)) low in
          (leb-true 4 (refusal_number refusal) both.0, not_want refusal both.1);
    }
