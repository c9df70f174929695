use Rattle.std.proofs.Common.{[], ◌∷◌, sym, subst}
use Rattle.witness_spec.specs.Premises.{NoCollisionWith, Unforged}
use Rattle.state_spec.specs.State.{opening_client}
use Rattle.witness_examples.specs.Signed.Audited.{state_read}
use Rattle.witness_examples.specs.Signed.Based.{checked_log, state_later, watched_later}
use Rattle.witness_examples.proofs.OfSigned.Basing.{log_fits, log_honest, own_all, unforged}
use Rattle.witness_examples.proofs.OfSigned.BasedTexts.{unlike}
use Rattle.witness_examples.proofs.signed.bases.premises_with_a_base_are_possible.Goals as goal

pub returns-clause-log : goal.returns-clause-log
returns-clause-log c = log_fits

pub returns-clause-unforged : goal.returns-clause-unforged
returns-clause-unforged c = λ secret.
    subst (Unforged (watched_later secret) checked_log) (sym (own_all secret)) (unforged secret)

pub returns-clause-honest : goal.returns-clause-honest
unfolding log_honest
returns-clause-honest c = λ secret. record {
  honest = log_honest secret;
  unlike = subst (NoCollisionWith (watched_later secret) checked_log
      (opening_client 5 ∷ state_read ∷ state_read ∷ state_later ∷ [])) (sym (own_all secret)) (unlike secret);
}
