use Rattle.std.proofs.Common.{[], refl, ap}
use Rattle.secure_log.specs.declared.log_entries.entry.Entry.TheVariants.{Clock}
use Rattle.replay_spec.specs.LogLaws.HonestServers.{next_logged}
use Rattle.witness_spec.specs.Standing.{stage_of}
use Rattle.witness_examples.proofs.OfSigned.Auditing.{own_asked, closed_is, none_skipped, whole_part}
use Rattle.witness_examples.proofs.signed.audits.answer_premises_are_possible.Goals as goal

pub returns-clause-history : goal.returns-clause-history
returns-clause-history c = λ secret. (c.signed_histories_are_possible.ensures.history secret).2.2.2.2

pub returns-clause-asked : goal.returns-clause-asked
returns-clause-asked c = λ secret. ap stage_of (own_asked secret)

pub returns-clause-part : goal.returns-clause-part
returns-clause-part c = whole_part

pub returns-clause-skips : goal.returns-clause-skips
returns-clause-skips c = none_skipped

pub returns-clause-place : goal.returns-clause-place
returns-clause-place c = λ secret. record {
  node = refl;
  entry = next_logged (Clock 1 0);
  there = record { before = []; rest = []; whole = refl; place = refl };
  is_word = refl;
  hash = refl;
}

pub returns-clause-signed : goal.returns-clause-signed
returns-clause-signed c = λ secret. (closed_is secret).closed.signed
