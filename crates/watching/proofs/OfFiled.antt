-- The segment that was filed sound last is kept, after a step.
-- Serves: step.
use Rattle.std.proofs.Common.{◌≡◌, inl, inr, List, ◌∷◌, Option, Some, None, refl, sym, subst}
use Rattle.std.specs.Prelude.{IfSome}
use Rattle.secure_log.specs.Versioned.{ClosedParts}
use Rattle.witness_spec.specs.Events.{Event}
use Rattle.witness_spec.specs.Replies.{Reply, Filed}
use Rattle.witness_spec.specs.Starting.{Beginning}
use Rattle.witness_spec.specs.Histories.{History, IsHistory, Stands}
use Rattle.witness_spec.specs.Contract.{AreBooks}
use Rattle.witness_books.specs.Books.{BooksParts, beginning_of, parts_in}
use Rattle.watching.specs.Filed.{WasFiled, last_filed, sound_segment}
use Rattle.watching.specs.Telling.{Steps}

module _ (old new : BooksParts) (event : Event) (same : beginning_of new ≡ beginning_of old) where
  -- what books stand for after a step
  after : (reply : Reply) (history : History) → IsHistory (beginning_of old) ((event, reply) ∷ history)
      × Stands (beginning_of old) (parts_in new) ((event, reply) ∷ history)
      → IsHistory (beginning_of new) ((event, reply) ∷ history)
      × Stands (beginning_of new) (parts_in new) ((event, reply) ∷ history)
  after reply history both =
      subst (λ (g : Beginning). IsHistory g ((event, reply) ∷ history)
      × Stands g (parts_in new) ((event, reply) ∷ history)) (sym same) both

  -- what was filed before stays so
  still : (reply : Reply) → Steps old event reply new → (c : ClosedParts) → WasFiled old c → WasFiled new c
  still reply steps c was =
      let both = after reply was.history (steps was.history was.is was.stands) in
      record {
        history = (event, reply) ∷ was.history;
        is = both.0;
        stands = both.1;
        event = was.event;
        filed = inr was.filed;
        sound = was.sound;
      }

  -- what is filed now was filed
  now : Steps old event Filed new → AreBooks (beginning_of old) (parts_in old) → (c : ClosedParts)
      → sound_segment event ≡ Some c → WasFiled new c
  now steps are c is =
      let both = after Filed are.history (steps are.history are.is are.stands) in
      record {
        history = (event, Filed) ∷ are.history;
        is = both.0;
        stands = both.1;
        event = event;
        filed = inl refl;
        sound = is;
      }

  stays : (reply : Reply) → Steps old event reply new → (before : Option ClosedParts)
      → IfSome before (WasFiled old) → IfSome before (WasFiled new)
  stays reply steps None was = tt
  stays reply steps (Some c) was = still reply steps c was

  kept : (before sound : Option ClosedParts) (reply : Reply) → Steps old event reply new
      → AreBooks (beginning_of old) (parts_in old) → IfSome sound (λ c. sound_segment event ≡ Some c)
      → IfSome before (WasFiled old) → IfSome (last_filed before sound reply) (WasFiled new)
  kept before None reply steps are is was = stays reply steps before was
  kept before (Some c) Filed steps are is was = now steps are c is
  kept before (Some c) reply steps are is was = stays reply steps before was

  pub filed_follows : (before after sound : Option ClosedParts) (reply : Reply) → Steps old event reply new
      → AreBooks (beginning_of old) (parts_in old) → IfSome sound (λ c. sound_segment event ≡ Some c)
      → after ≡ last_filed before sound reply → IfSome before (WasFiled old) → IfSome after (WasFiled new)
  filed_follows before after sound reply steps are is keeps was =
      subst (λ (x : Option ClosedParts). IfSome x (WasFiled new)) (sym keeps)
      (kept before sound reply steps are is was)
