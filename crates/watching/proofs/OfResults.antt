-- Results that are written one after the other.
-- Serves: add_greeted, add_wanted, add_messages.
use Rattle.std.proofs.Common.{◌≡◌, inr, ℕ, List, [], ◌∷◌, ◌++◌, length, map, refl, sym, ap, ap₂, ◌∙◌}
use Rattle.std.proofs.Common.{append_assoc, subst}
use Rattle.std.specs.Prelude.{Result, Ok, Err, OnOk}
use Rattle.std.specs.List.{flat_map}
use Rattle.std.proofs.lemmas.List.Concat.{flat_map-cons}
use Rattle.xdr.specs.Item.{fixed, number_spelling, optional, spelling}
use Rattle.xdr.specs.Writing.{Adds, Writes, Begins}
use Rattle.std.proofs.lemmas.List.{length-map}
use Rattle.peer_calls.specs.Arguments.{numbers_item}
use Rattle.packets.specs.Packet.{SendChallenge, packet_text}
use Rattle.peer_calls.specs.Answers.{message_item, message_value}
use Rattle.witness_spec.specs.Replies.{Challenge, AuditOf, SendOf}
use Rattle.watching.specs.Answers.{IsGreeted, audit_of, messages_of, messages_text}
use Rattle.watching.specs.Answers.{wanted_results}

-- another roster's digest
pub greeted_other : {E : Type 0} (r : Result (Unit {0}) E) (theirs own old mid new : List ℕ) →
    (theirs ≡ own → ⊥)
    → mid ≡ old ++ number_spelling 4 1 → length own ≡ 32 → Writes (fixed (length own)) own mid r new
    → OnOk r ((x : List ℕ) × IsGreeted theirs own x × (new ≡ old ++ x))
greeted_other (Err e) theirs own old mid new differs first size second = tt
greeted_other (Ok x) theirs own old mid new differs first size second = (
  number_spelling 4 1 ++ spelling (fixed 32) own,
  inr (differs, refl),
  subst (λ (n : ℕ). new ≡ mid ++ spelling (fixed n) own) size second
      ∙ (ap (λ (t : List ℕ). t ++ spelling (fixed 32) own) first
      ∙ append_assoc old (number_spelling 4 1) (spelling (fixed 32) own)),
)

-- the packets of messages are the elements of their array
pub messages_are : (challenges : List Challenge) → messages_text challenges
    ≡ flat_map (spelling message_item) (map message_value (messages_of challenges))
messages_are [] = refl
messages_are (AuditOf first last ∷ challenges) = messages_are challenges
messages_are (SendOf e ∷ challenges) =
    ap (λ (t : List ℕ). packet_text (SendChallenge e) ++ t) (messages_are challenges)
    ∙ sym (flat_map-cons (spelling message_item) (message_value e)
    (map message_value (messages_of challenges)))

-- what was begun before begins what is written on
pub begins_on : (old mid new done : List ℕ) → mid ≡ old ++ done → Begins mid new → Begins old new
begins_on old mid new done is (more, on) =
    (done ++ more, on ∙ (ap (λ (t : List ℕ). t ++ more) is ∙ append_assoc old done more))

-- an audit, a count and the messages are what is wanted
pub wanted_written : {E : Type 0} (r : Result (Unit {0}) E) (challenges : List Challenge) (count : ℕ)
    (old one two new : List ℕ) → one ≡ old ++ spelling (optional numbers_item) (audit_of challenges)
    → count ≡ length (messages_of challenges) → two ≡ one ++ number_spelling 4 count
    → Adds (messages_text challenges) two r new → Adds (wanted_results challenges) old r new
wanted_written (Ok x) challenges count old one two new first is second third =
    let a : List ℕ = spelling (optional numbers_item) (audit_of challenges) in
    let b : List ℕ = number_spelling 4 (length (map message_value (messages_of challenges))) in
    let c : List ℕ = flat_map (spelling message_item) (map message_value (messages_of challenges)) in
    let counted : number_spelling 4 count ≡ b =
    ap (number_spelling 4) (is ∙ sym (length-map (messages_of challenges) message_value)) in
    third
    ∙ (ap₂ (λ (s t : List ℕ). s ++ t) (second ∙ ap₂ (λ (s t : List ℕ). s ++ t) first counted)
    (messages_are challenges)
    ∙ (append_assoc (old ++ a) b c ∙ append_assoc old a (b ++ c)))
wanted_written (Err e) challenges count old one two new first is second third =
    let a : List ℕ = spelling (optional numbers_item) (audit_of challenges) in
    begins_on old two new (a ++ number_spelling 4 count)
    (second ∙ (ap (λ (t : List ℕ). t ++ number_spelling 4 count) first
    ∙ append_assoc old a (number_spelling 4 count))) third
