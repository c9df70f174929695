use Rattle.std.proofs.Common.{inl, refl, arith, []}
use Rattle.witness_spec.specs.Events as events
use Rattle.witness_spec.specs.Starting.{from_the_first}
use Rattle.witness_spec.specs.Replies.{Noted}
use Rattle.witness_spec.specs.Steps.{Learn}
use Rattle.witness_examples.specs.Signed.Audited.{alone, client, client_key, signed}
use Rattle.witness_examples.specs.Signed.Shown.{ones, twos, one_event, one_step}
use Rattle.witness_examples.proofs.OfSigned.Auditing.{learned_whose, signed_event}
use Rattle.witness_examples.proofs.OfSigned.Showing.{own_forked, own_one, owed_to}
use Rattle.witness_examples.proofs.signed.messages.signed_forks_are_possible.Goals as goal

pub returns-clause-history : goal.returns-clause-history
returns-clause-history c = λ secret.
    let steps = c.signed_forks_expose.ensures in (
      signed_event secret 1 1 twos (omega arith) (omega arith) refl,
      inl (owed_to (from_the_first (alone secret)) (client secret) (one_event secret) (one_step secret)
          (events.Learn (signed secret 1 1 twos) (client_key secret)) (Learn (signed secret 1 1 twos)) Noted
          (own_one secret) (learned_whose secret 1 1 twos) (steps.second secret)),
      (
        signed_event secret 0 1 ones (omega arith) (omega arith) refl,
        inl (owed_to (from_the_first (alone secret)) (client secret) [] []
            (events.Learn (signed secret 0 1 ones) (client_key secret))
            (Learn (signed secret 0 1 ones)) Noted refl (learned_whose secret 0 1 ones) (steps.first secret)),
        tt,
      ),
    )

pub returns-clause-own_steps : goal.returns-clause-own_steps
returns-clause-own_steps c = own_forked
