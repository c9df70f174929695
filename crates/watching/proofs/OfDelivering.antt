-- Packets that are handed in.
-- Serves: deliver.
use Rattle.std.proofs.Common.{◌≡◌, ◌⊎◌, inl, inr, ℕ, List, false, true≢false, sym, ap, ◌∙◌}
use Rattle.std.specs.Prelude.{Result, Ok, Err, IfOk, OnOk, OnErr}
use Rattle.xdr.specs.Item.{IsBytes}
use Rattle.witness_spec.specs.ContractLaws.{LeftOutLeavesBooks}
use Rattle.witness_spec.specs.Events.{Event, Deliver, IsEvent}
use Rattle.witness_spec.specs.Refusals as refusals
use Rattle.witness_spec.specs.Replies.{Reply, Refused, is_want, is_want_of_memory}
use Rattle.witness_spec.specs.Whose.{whose}
use Rattle.witness_books.specs.Books.{BooksParts, beginning_of, parts_in}
use Rattle.witness_books.specs.Delivering.{Spell, SpelledIsTaken}
use Rattle.watching.specs.Telling.{IsDelivered, IsTaken, MayBeDelivered, Steps}
use Rattle.watching.specs.declared.deliver.Delivered.{Delivered}

-- books that took the event that bytes spell took the bytes
pub spelled_steps : (old new : BooksParts) (bytes : List ℕ) (event : Event) (reply : Reply) → SpelledIsTaken
    → IsBytes bytes → Spell old.roster bytes event × IsEvent event → Steps old event reply new
    → Steps old (Deliver bytes) reply new
spelled_steps old new bytes event reply law are (spell, is) steps =
    (law (beginning_of old) (parts_in old) (parts_in new) bytes event reply are is spell).1 steps

-- what became of it, by the reply
pub delivered_is : {E : Type 0} (r : Result Delivered E) (old new : BooksParts) (bytes : List ℕ)
    (reply : Reply)
    → Steps old (Deliver bytes) reply new → IfOk r (λ d. IsTaken reply d)
    → OnOk r (is_want_of_memory reply ≡ false) → IfOk r (λ d. IsDelivered old bytes d new)
delivered_is (Ok d) old new bytes reply steps taken enough =
    record { reply = reply; steps = steps; enough = enough; is_taken = taken }
delivered_is (Err e) old new bytes reply steps taken enough = tt

-- and where memory was refused
pub delivered_may : {E : Type 0} (r : Result Delivered E) (old new : BooksParts) (bytes : List ℕ)
    (reply : Reply)
    → Steps old (Deliver bytes) reply new → OnErr r (MayBeDelivered old bytes new)
delivered_may (Ok d) old new bytes reply steps = tt
delivered_may (Err e) old new bytes reply steps = inr (reply, steps)

-- bytes that are nobody's step
pub refused_is : {E : Type 0} (r : Result Delivered E) (old : BooksParts) (bytes : List ℕ)
    (refusal : refusals.Refusal) → LeftOutLeavesBooks → IsBytes bytes
    → (whose old.roster (Deliver bytes) ≡ Err refusal) ⊎ (refusal ≡ refusals.NoMemory)
    → IfOk r (λ d. IsTaken (Refused refusal) d) → OnOk r (is_want refusal ≡ false)
    → IfOk r (λ d. IsDelivered old bytes d old)
refused_is (Err e) old bytes refusal law are why taken enough = tt
refused_is (Ok d) old bytes refusal law are (inl none) taken enough = record {
  reply = Refused refusal;
  steps = law (beginning_of old) (parts_in old) (Deliver bytes) refusal are none;
  enough = enough;
  is_taken = taken;
}
refused_is (Ok d) old bytes refusal law are (inr want) taken enough =
    absurd (true≢false (sym (ap is_want want) ∙ enough))
