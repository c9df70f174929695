use Rattle.std.proofs.Common.{refl, sym, subst, [], ◌∷◌}
use Rattle.xdr.specs.Reading.{number_at}
use Rattle.xdr.specs.Texts.Text.{text_at}
use Rattle.packets.specs.Packet.{delivery_of}
use Rattle.packets.specs.Judging.{judged}
use Rattle.witness_spec.specs.Refusals.{UnknownNode, BadSignature}
use Rattle.witness_spec.specs.Events.{Deliver}
use Rattle.witness_spec.specs.Starting.{from_the_first}
use Rattle.witness_spec.specs.Replies.{Refused}
use Rattle.witness_spec.specs.Whose.{judged_step}
use Rattle.witness_spec.specs.Histories.{OwesTo}
use Rattle.witness_examples.specs.Worked.{five}
use Rattle.witness_examples.specs.Bytes.{forged_packet}
use Rattle.witness_examples.proofs.Bytes.{of_stranger, of_member}
use Rattle.witness_examples.proofs.delivered.bytes_are_refused.Goals as goal

pub returns-clause-none : goal.returns-clause-none
unfolding judged delivery_of number_at
returns-clause-none c = λ history. refl

pub returns-clause-kind : goal.returns-clause-kind
unfolding judged delivery_of number_at
returns-clause-kind c = λ history. refl

pub returns-clause-short : goal.returns-clause-short
unfolding judged delivery_of number_at text_at
returns-clause-short c = λ history. refl

pub returns-clause-stranger : goal.returns-clause-stranger
returns-clause-stranger c = λ history.
    subst (λ r. OwesTo (from_the_first (five ∷ [])) history (Deliver (forged_packet 6)) (Refused UnknownNode)
    (judged_step (five ∷ []) r))
    (sym of_stranger) refl

pub returns-clause-forged : goal.returns-clause-forged
returns-clause-forged c = λ history.
    subst (λ r. OwesTo (from_the_first (five ∷ [])) history (Deliver (forged_packet 5)) (Refused BadSignature)
    (judged_step (five ∷ []) r))
    (sym of_member) refl
