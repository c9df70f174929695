-- Bytes and the event that they spell are taken alike.
-- Serves: read_event, spelled_is_taken.
use Rattle.std.proofs.Common.{◌≡◌, ◌⊎◌, inl, inr, ℕ, Bool, true, ◌==◌, List, [], ◌∷◌, ◌++◌, Result, Ok, Err}
use Rattle.std.proofs.Common.{Option, Some, None, if◌then◌else◌, refl, sym, ap, subst, ◌∙◌, eq-eqb}
use Rattle.std.proofs.lemmas.Bool.{and_from}
use Rattle.authenticator.specs.Roster.{member_of}
use Rattle.authenticator.specs.Signing.{is_same}
use Rattle.authenticator.specs.declared.member.Member.{Member}
use Rattle.authenticator.specs.declared.refusal.Refusal as checks
use Rattle.authenticator.specs.declared.refusal.Refusal.TheVariants as checking
use Rattle.authenticator.proofs.Signed.{list_same}
use Rattle.packets.specs.Packet.{Delivery}
use Rattle.packets.specs.Packet as packets
use Rattle.packets.specs.Judging.{Refuses, judged}
use Rattle.node_book.specs.witness_spec.Refusals.{Refusal, BadSignature, NoMemory, refusal_of}
use Rattle.node_book.specs.witness_spec.Events.{Event, PublicKey, IsEvent}
use Rattle.node_book.specs.witness_spec.Events as events
use Rattle.node_book.specs.witness_spec.Replies.{Reply, refused, is_want_of_memory}
use Rattle.node_book.specs.witness_spec.Steps.{Step, OwnStep}
use Rattle.node_book.specs.witness_spec.Steps as steps
use Rattle.node_book.specs.witness_spec.Starting.{Beginning}
use Rattle.node_book.specs.witness_spec.Watched.{watched}
use Rattle.node_book.specs.witness_spec.Whose.{is_key_of, same_roster, step_of, signed_step, sent_step}
use Rattle.node_book.specs.witness_spec.Whose.{closed_step}
use Rattle.node_book.specs.witness_spec.Whose.{judged_step, whose}
use Rattle.node_book.specs.witness_spec.Histories.{History, own_step, own, OwesTo, IsOwed, MayWant, IsWanting}
use Rattle.node_book.specs.witness_spec.Histories.{BookParts, StandsFor, StandEach}
use Rattle.node_book.specs.witness_spec.Contract.{StepsTo}
use Rattle.node_book.specs.Events.{key_of}
use Rattle.witness_books.specs.Delivering.{IsDelivery, Spell}
use Rattle.node_book.proofs.witness_laws.OfAnswers.Answering.{roster_self}

-- ---- whose step it is

-- the step, if the key is this member's
abbrev if_own : Member → Step → Bool → Result OwnStep Refusal
if_own m step b = if b then Ok (record { member = m; step = step }) else Err BadSignature

-- a member's own key is its key
key_self : (m : Member) → is_key_of m (key_of m) ≡ true
key_self m =
    and_from (is_same m.root m.root) (m.height == m.height) (list_same m.root m.root refl)
    (eq-eqb m.height m.height refl)

-- what its member signed is its step
signed_is : (ms : List Member) (node : ℕ) (m : Member) (step : Step) → member_of ms node ≡ Some m
    → step_of (member_of ms node) step ≡ signed_step (member_of ms node) (key_of m) step
signed_is ms node m step is =
    ap (λ (o : Option Member). step_of o step) is
    ∙ (sym (ap (if_own m step) (key_self m))
    ∙ sym (ap (λ (o : Option Member). signed_step o (key_of m) step) is))

-- what a member sent is its receiver's step
sent_is : (ms : List Member) (from : ℕ) (m : Member) (to : Option Member) (step : Step)
    → member_of ms from ≡ Some m → step_of to step ≡ sent_step (member_of ms from) to (key_of m) step
sent_is ms from m to step is =
    by to ∙ sym (ap (λ (o : Option Member). sent_step o to (key_of m) step) is)
  where
    by : (to : Option Member) → step_of to step ≡ sent_step (Some m) to (key_of m) step
    by None = refl
    by (Some n) = sym (ap (if_own n step) (key_self m))

-- what is closed under the roster is its member's step
closed_is : (ms : List Member) (o : Option Member) (step : Step)
    → step_of o step ≡ closed_step o (same_roster ms ms) step
closed_is ms None step = refl
closed_is ms (Some m) step = sym (ap (if_own m step) (roster_self ms))

-- ---- events that are taken alike

-- Two events are one step, which is refused alike.
pub record AreAlike (ms : List Member) (one two : Event) : Type 0 where
  -- they are the same step
  pub whose_is : whose ms one ≡ whose ms two
  -- they are refused alike
  pub refused_as : (f : Refusal) → refused one f ≡ refused two f
  -- the second may run out of memory if the first may
  pub wants_as : MayWant one → MayWant two

-- bytes and what they spell are alike
pub spelled_alike : (ms : List Member) (bytes : List ℕ) (event : Event) → Spell ms bytes event
    → AreAlike ms (events.Deliver bytes) event
spelled_alike ms bytes event spell = by spell.delivery spell.is_taken spell.is_event
  where
    by : (d : Delivery) → judged ms bytes ≡ Ok d → IsDelivery ms d event
        → AreAlike ms (events.Deliver bytes) event
    by (packets.Learn a) is (m, (of, same)) =
        subst (AreAlike ms (events.Deliver bytes)) (sym same) (record {
          whose_is = ap (judged_step ms) is ∙ signed_is ms a.node m (steps.Learn a) of;
          refused_as = λ f. refl;
          wants_as = λ _. tt;
        })
    by (packets.SendChallenge e) is (m, (of, same)) =
        subst (AreAlike ms (events.Deliver bytes)) (sym same) (record {
          whose_is = ap (judged_step ms) is
              ∙ sent_is ms e.from m (member_of ms e.to) (steps.SendChallenge e) of;
          refused_as = λ f. refl;
          wants_as = λ _. tt;
        })
    by (packets.Answer s) is same =
        subst (AreAlike ms (events.Deliver bytes)) (sym same) (record {
          whose_is = ap (judged_step ms) is
              ∙ closed_is ms (member_of ms s.closing.node)
              (steps.Answer (record { segment = s; roster = ms }));
          refused_as = λ f. refl;
          wants_as = λ _. tt;
        })
    by (packets.AckIn a) is (m, (of, same)) =
        subst (AreAlike ms (events.Deliver bytes)) (sym same) (record {
          whose_is = ap (judged_step ms) is ∙ signed_is ms a.by m (steps.AckIn a) of;
          refused_as = λ f. refl;
          wants_as = λ _. tt;
        })

-- and the other way round
pub alike_spelled : (ms : List Member) (bytes : List ℕ) (event : Event) → Spell ms bytes event
    → AreAlike ms event (events.Deliver bytes)
alike_spelled ms bytes event spell =
    let alike = spelled_alike ms bytes event spell in
    record {
      whose_is = sym alike.whose_is;
      refused_as = λ f. sym (alike.refused_as f);
      wants_as = λ _. tt;
    }

module _ (g : Beginning) (one two : Event) (alike : AreAlike g.roster one two) where
  -- what is owed to one is owed to the other
  pub owed_alike : (history : History) (reply : Reply) → IsOwed g history one reply
      → IsOwed g history two reply
  owed_alike history reply owed =
      subst (OwesTo g history two reply) alike.whose_is (by (whose g.roster one) owed)
    where
      by : (step : Result OwnStep Refusal) → OwesTo g history one reply step
          → OwesTo g history two reply step
      by (Err f) is = is ∙ alike.refused_as f
      by (Ok o) owes = owes

  -- a node's own steps are the same
  own_alike : (history : History) (reply : Reply) (node : ℕ)
      → own g.roster node ((one, reply) ∷ history) ≡ own g.roster node ((two, reply) ∷ history)
  own_alike history reply node =
      ap (λ (step : Result OwnStep Refusal).
      (if is_want_of_memory reply then [] else own_step node step reply) ++ own g.roster node history)
      alike.whose_is

  -- books stand for one where they stand for the other
  stand_alike : (history : History) (reply : Reply) (members : List Member) (books : List BookParts)
      → StandEach g ((one, reply) ∷ history) members books
      → StandEach g ((two, reply) ∷ history) members books
  stand_alike history reply [] [] stand = tt
  stand_alike history reply [] (b ∷ books) stand = absurd stand
  stand_alike history reply (m ∷ members) [] stand = absurd stand
  stand_alike history reply (m ∷ members) (b ∷ books) stand = (
    subst (λ past. StandsFor (watched g m) past b) (own_alike history reply m.node) stand.0,
    stand_alike history reply members books stand.1,
  )

  -- a step of one is a step of the other
  pub taken_alike : (old new : List BookParts) (reply : Reply) → IsEvent two → StepsTo g old one reply new
      → StepsTo g old two reply new
  taken_alike old new reply is_event steps history is stands =
      let made = steps history is stands in
      ((is_event, by made.0.1, is), stand_alike history reply g.roster new made.1)
    where
      by : IsOwed g history one reply ⊎ IsWanting one reply
          → IsOwed g history two reply ⊎ IsWanting two reply
      by (inl owed) = inl (owed_alike history reply owed)
      by (inr wants) =
          inr (record { may = alike.wants_as wants.may; is = wants.is ∙ alike.refused_as NoMemory })

-- ---- reading

-- bytes whose check is refused are nobody's step
pub refused_is : (ms : List Member) (bytes : List ℕ) (refusal : checks.Refusal) (said : Refusal)
    → Refuses (judged ms bytes) refusal → said ≡ refusal_of refusal
    → (whose ms (events.Deliver bytes) ≡ Err said) ⊎ (said ≡ NoMemory)
refused_is ms bytes checking.UnknownNode said is same =
    inl (ap (judged_step ms) is ∙ ap (λ (f : Refusal). Err f) (sym same))
refused_is ms bytes checking.Garbage said is same =
    inl (ap (judged_step ms) is ∙ ap (λ (f : Refusal). Err f) (sym same))
refused_is ms bytes checking.BadSignature said is same =
    inl (ap (judged_step ms) is ∙ ap (λ (f : Refusal). Err f) (sym same))
refused_is ms bytes checking.NoMemory said is same = inr same

-- bytes spell the event that is delivered
pub spell_is : (ms : List Member) (bytes : List ℕ) (d : Delivery) (event : Event) → judged ms bytes ≡ Ok d
    → IsDelivery ms d event → Spell ms bytes event
spell_is ms bytes d event is delivered =
    record { delivery = d; is_taken = is; is_event = delivered }
