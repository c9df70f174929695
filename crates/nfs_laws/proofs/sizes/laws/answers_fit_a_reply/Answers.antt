use Rattle.nfs_laws.proofs.OfSizes.Lengths.{answer_length, change_length}
use Rattle.nfs_laws.proofs.sizes.laws.answers_fit_a_reply.Goals as goal

pub returns-clause-any : goal.returns-clause-any
returns-clause-any c w who now call tree = answer_length w who now tree call

pub returns-clause-changes : goal.returns-clause-changes
returns-clause-changes c = change_length
