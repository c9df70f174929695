use Rattle.std.proofs.Common.{inl, refl, []}
use Rattle.witness_spec.specs.Events as events
use Rattle.witness_spec.specs.Starting.{from_the_first}
use Rattle.witness_spec.specs.Replies.{Opened, Closed}
use Rattle.witness_spec.specs.Steps.{SendChallenge, AckIn}
use Rattle.witness_examples.specs.Signed.Audited.{client, client_key}
use Rattle.witness_examples.specs.Signed.Shown.{both, message, acknowledged, challenged_event}
use Rattle.witness_examples.specs.Signed.Shown.{challenged_step}
use Rattle.witness_examples.proofs.OfSigned.Showing.{message_is, acknowledged_is, message_whose}
use Rattle.witness_examples.proofs.OfSigned.Showing.{acknowledged_whose}
use Rattle.witness_examples.proofs.OfSigned.Showing.{own_challenged, own_acknowledged, owed_to}
use Rattle.witness_examples.proofs.signed.messages.signed_acknowledgements_are_possible.Goals as goal

pub returns-clause-history : goal.returns-clause-history
returns-clause-history c = λ secret other.
    let steps = c.signed_acknowledgements_close.ensures in (
      acknowledged_is secret other,
      inl (owed_to (from_the_first (both secret other)) (client secret) (challenged_event other)
          (challenged_step other)
          (events.AckIn (acknowledged secret other) (client_key secret))
          (AckIn (acknowledged secret other)) Closed
          (own_challenged secret other) (acknowledged_whose secret other) (steps.closed secret other)),
      (
        message_is secret other,
        inl (owed_to (from_the_first (both secret other)) (client secret) [] []
            (events.SendChallenge (message other) (client_key other))
            (SendChallenge (message other)) Opened refl
            (message_whose secret other) (steps.opened secret other)),
        tt,
      ),
    )

pub returns-clause-own_steps : goal.returns-clause-own_steps
returns-clause-own_steps c = own_acknowledged
