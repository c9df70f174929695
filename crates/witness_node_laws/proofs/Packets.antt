-- Bytes of packets are the steps that they spell.
-- Serves: answers_of_nodes_are_accepted, acknowledgements_of_nodes_close.
use Rattle.std.proofs.Common.{◌≡◌, ℕ, zero, suc, ◌<◌, cond, List, [], ◌∷◌, ◌++◌, Some}
use Rattle.std.proofs.Common.{Ok, IsSomeAnd, refl, sym, ap, subst, ◌∙◌, arith}
use Rattle.std.specs.Prelude.{IsSome}
use Rattle.xdr.specs.Item.{IsBytes, number_spelling}
use Rattle.xdr.specs.Texts.Text.{IsText}
use Rattle.authenticator.specs.Roster.{member_of}
use Rattle.authenticator.specs.Signed.{IsSignedBy, IsSignedIn}
use Rattle.authenticator.specs.declared.authenticator.Authenticator.{Authenticator}
use Rattle.authenticator.specs.declared.member.LogVersion.{LogVersion}
use Rattle.authenticator.specs.declared.member.LogVersion.TheVariants.{One, Two}
use Rattle.secure_log.specs.Versioned.{FitsVersion, IsClosedIn, VersionedParts, versioned_text, versioned_value}
use Rattle.secure_log.specs.declared.segment.TheConstants.{MAX_ENTRIES}
use Rattle.envelopes.specs.Acknowledgement.{ack_shows, ack_text, ack_value}
use Rattle.envelopes.specs.declared.acknowledgement.Ack.{Ack}
use Rattle.packets.specs.Packet as packets
use Rattle.packets.specs.Packet.{answer_number}
use Rattle.packets.specs.Taking.{IsTaken}
use Rattle.packets.specs.Laws.{JudgedAsMeant}
use Rattle.witness_laws.specs.witness_spec.Events.{Event}
use Rattle.witness_laws.specs.witness_spec.Events as events
use Rattle.witness_laws.specs.witness_spec.Replies.{is_want_of_memory}
use Rattle.witness_laws.specs.witness_spec.Starting.{Beginning}
use Rattle.witness_laws.specs.witness_spec.Watched.{Watched, IsWatchedFrom}
use Rattle.witness_laws.specs.witness_spec.Steps.{Answer, AckIn, OwnStep}
use Rattle.witness_laws.specs.witness_spec.Whose.{judged_step, step_of, whose}
use Rattle.witness_laws.specs.witness_spec.Histories.{History, OwesTo, own_step, own_of}
use Rattle.witness_node_laws.specs.Laws.{IsSameStep}

-- ---- bytes

one_more : (x : ℕ) (xs : List ℕ) → x < 256 → IsBytes xs → IsBytes (x ∷ xs)
one_more x xs low h zero = low
one_more x xs low h (suc i) = h i

after_three : (bytes : List ℕ) → IsBytes bytes → IsBytes (number_spelling 4 3 ++ bytes)
unfolding number_spelling
after_three bytes h =
    one_more 0 (0 ∷ 0 ∷ 3 ∷ bytes) (omega arith) (one_more 0 (0 ∷ 3 ∷ bytes) (omega arith)
    (one_more 0 (3 ∷ bytes) (omega arith) (one_more 3 bytes (omega arith) h)))

after_five : (bytes : List ℕ) → IsBytes bytes → IsBytes (number_spelling 4 5 ++ bytes)
unfolding number_spelling
after_five bytes h =
    one_more 0 (0 ∷ 0 ∷ 5 ∷ bytes) (omega arith) (one_more 0 (0 ∷ 5 ∷ bytes) (omega arith)
    (one_more 0 (5 ∷ bytes) (omega arith) (one_more 5 bytes (omega arith) h)))

after_answer : (v : LogVersion) (bytes : List ℕ) → IsBytes bytes
    → IsBytes (number_spelling 4 (answer_number v) ++ bytes)
after_answer One bytes h = after_three bytes h
after_answer Two bytes h = after_five bytes h

after_four : (bytes : List ℕ) → IsBytes bytes → IsBytes (number_spelling 4 4 ++ bytes)
unfolding number_spelling
after_four bytes h =
    one_more 0 (0 ∷ 0 ∷ 4 ∷ bytes) (omega arith) (one_more 0 (0 ∷ 4 ∷ bytes) (omega arith)
    (one_more 0 (4 ∷ bytes) (omega arith) (one_more 4 bytes (omega arith) h)))

-- ---- steps

signed_in : (w : Watched) (a : Authenticator) → member_of w.roster a.node ≡ Some w.member
    → IsSignedBy w.member a
    → IsSignedIn w.roster a
signed_in w a is signed = subst (λ x. IsSomeAnd x (λ k. IsSignedBy k a)) (sym is) signed

some_is : (w : Watched) (node : ℕ) → member_of w.roster node ≡ Some w.member
    → IsSome (member_of w.roster node)
some_is w node is = subst IsSome (sym is) refl

same_step : (g : Beginning) (w : Watched) (history : History) (bytes : List ℕ) (event : Event) (o : OwnStep)
    → IsWatchedFrom g w → IsBytes bytes → whose w.roster (events.Deliver bytes) ≡ Ok o
    → whose w.roster event ≡ Ok o → IsSameStep g w history bytes event
same_step g w history bytes event o from bound its v =
    let its_here : whose g.roster (events.Deliver bytes) ≡ Ok o =
    ap (λ ms. whose ms (events.Deliver bytes)) from.roster ∙ its in
    let here : whose g.roster event ≡ Ok o = ap (λ ms. whose ms event) from.roster ∙ v in
    record {
      bound = bound;
      step = its ∙ sym v;
      owed = λ reply. (
        λ h. subst (OwesTo g history event reply) (sym here)
            (subst (OwesTo g history (events.Deliver bytes) reply) its_here h),
        λ h. subst (OwesTo g history (events.Deliver bytes) reply) (sym its_here)
            (subst (OwesTo g history event reply) here h),
      );
      own_steps = λ reply.
          ap (λ x. cond (is_want_of_memory reply) [] (own_step w.member.node x reply) ++ own_of w history)
          (its ∙ sym v);
    }

-- The packet of a closed segment's text is the same step as the segment.
pub answer_packet : JudgedAsMeant → (g : Beginning) (w : Watched) (history : History) (s : VersionedParts)
    (bytes : List ℕ) → IsWatchedFrom g w → IsBytes bytes → FitsVersion MAX_ENTRIES s
    → IsText (versioned_text s.log_version MAX_ENTRIES) (versioned_value s.log_version s) bytes
    → IsClosedIn w.roster s
    → member_of w.roster s.closing.node ≡ Some w.member
    → whose w.roster (events.Answer (record { segment = s; roster = w.roster }))
    ≡ Ok (record { member = w.member; step = Answer (record { segment = s; roster = w.roster }) })
    → IsSameStep g w history (number_spelling 4 (answer_number s.log_version) ++ bytes)
    (events.Answer (record { segment = s; roster = w.roster }))
answer_packet meant g w history s bytes from bound fits text closed member its =
    let packet : List ℕ = number_spelling 4 (answer_number s.log_version) ++ bytes in
    let all : IsBytes packet = after_answer s.log_version bytes bound in
    let taken : IsTaken w.roster packet (packets.Answer s) = record {
      of_members = record {
        well = record {
          says = record {
            content = bytes;
            whole = refl;
            is_content = record { fits = fits; is = text };
          };
          may_be = (closed.version, closed.ends);
        };
        members = some_is w s.closing.node member;
      };
      signed = closed.signed;
    } in
    same_step g w history packet (events.Answer (record { segment = s; roster = w.roster })) _ from all
    (ap (judged_step w.roster) ((meant w.roster packet (Ok (packets.Answer s)) all).1 taken)
    ∙ ap (λ x. step_of x (Answer (record { segment = s; roster = w.roster }))) member) its

-- The packet of a signed acknowledgement's text is the same step as the acknowledgement under a key.
pub ack_packet : JudgedAsMeant → (g : Beginning) (w : Watched) (history : History) (a : Ack) (event : Event)
    (text : List ℕ) → IsWatchedFrom g w → IsBytes text → IsText ack_text (ack_value a) text
    → member_of w.roster a.by ≡ Some w.member
    → IsSignedBy w.member (ack_shows a)
    → whose w.roster event ≡ Ok (record { member = w.member; step = AckIn a })
    → IsSameStep g w history (number_spelling 4 4 ++ text) event
ack_packet meant g w history a event text from bound is member signed its =
    let packet : List ℕ = number_spelling 4 4 ++ text in
    let all : IsBytes packet = after_four text bound in
    let taken : IsTaken w.roster packet (packets.AckIn a) = record {
      of_members = record {
        well = record { says = record { content = text; whole = refl; is_content = is }; may_be = tt };
        members = some_is w a.by member;
      };
      signed = signed_in w (ack_shows a) member signed;
    } in
    same_step g w history packet event _ from all
    (ap (judged_step w.roster) ((meant w.roster packet (Ok (packets.AckIn a)) all).1 taken)
    ∙ ap (λ x. step_of x (AckIn a)) member) its
