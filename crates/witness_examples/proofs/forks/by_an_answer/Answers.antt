use Rattle.std.proofs.Common.{◌≡◌, rules, refl, ap, arith, length}
use Rattle.authenticator.proofs.Signed.{list_same}
use Rattle.replay_spec.specs.LogLaws.HonestServers.{next_logged}
use Rattle.secure_log.specs.LogEntries.Chain.{zeros, hash_after, logged_link}
use Rattle.secure_log.specs.declared.log_entries.entry.Entry.TheVariants.{Clock}
use Rattle.witness_spec.specs.Events.{ItsEvidence}
use Rattle.witness_spec.specs.Steps.{Ask}
use Rattle.witness_examples.specs.Worked.{node_five, one_hash}
use Rattle.witness_examples.specs.Forks.{answer_forked}
use Rattle.witness_examples.proofs.Telling.{told}
use Rattle.witness_examples.proofs.Hashes.{hash_length, short_first, short_last}
use Rattle.witness_examples.proofs.forks.by_an_answer.Goals as goal

pub returns-clause-unlike : goal.returns-clause-unlike
returns-clause-unlike c = λ e.
    let same : one_hash ≡ hash_after zeros (logged_link 1 (next_logged (Clock 1 0))) = e in
    absurd (omega (arith, ap length same, hash_length zeros (logged_link 1 (next_logged (Clock 1 0)))))

pub returns-clause-evidence : goal.returns-clause-evidence
returns-clause-evidence c = record {
  steps = search (rules, short_first, short_last);
  next = told node_five answer_forked (Ask ItsEvidence) _ (λ x. x)
      (rw (list_same zeros zeros refl, short_last 1 zeros (logged_link 1 (next_logged (Clock 1 0)))) refl);
}
