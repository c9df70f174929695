use Rattle.std.proofs.Common.{cond, ap, arith}
use Rattle.witness_spec.specs.Events.{ItsIndication, ItsEvidence}
use Rattle.witness_spec.specs.Replies.{Told, EvidenceIs, Exposed}
use Rattle.witness_spec.specs.Steps.{Ask}
use Rattle.witness_spec.specs.Standing.{open_challenges, without_evidence}
use Rattle.witness_spec.specs.Histories.{AreOwed}
use Rattle.witness_examples.specs.Worked.{node_five, learned, one_hash}
use Rattle.witness_examples.specs.Forks.{full_forked}
use Rattle.witness_examples.proofs.Telling.{told}
use Rattle.witness_examples.proofs.Many.{each_owed, there_already, fork_noted, fork_exposes, fork_evidence}
use Rattle.witness_examples.proofs.Many.{exposed_noted}
use Rattle.witness_examples.proofs.forks.after_as_many_as_are_kept.Goals as goal

all_owed : AreOwed node_five full_forked
all_owed = (fork_noted, each_owed 256 (omega arith))

pub returns-clause-already : goal.returns-clause-already
returns-clause-already c = record { steps = each_owed 256 (omega arith); next = there_already }

pub returns-clause-noted : goal.returns-clause-noted
returns-clause-noted c = record { steps = each_owed 256 (omega arith); next = fork_noted }

pub returns-clause-exposed : goal.returns-clause-exposed
returns-clause-exposed c = record {
  steps = all_owed;
  next = told node_five full_forked (Ask ItsIndication) (Told Exposed) (λ x. x)
      (ap (λ b. Told (cond b Exposed (without_evidence (open_challenges full_forked)))) fork_exposes);
}

pub returns-clause-evidence : goal.returns-clause-evidence
returns-clause-evidence c = record {
  steps = all_owed;
  next = told node_five full_forked (Ask ItsEvidence) _ (λ x. x) (ap EvidenceIs fork_evidence);
}

pub returns-clause-later : goal.returns-clause-later
returns-clause-later c = record {
  steps = all_owed;
  next = exposed_noted full_forked (learned 257 one_hash) fork_exposes;
}
