use Rattle.server_spec.proofs.MountSizes.{answer_is_own, answer_fits, answer_is_short}
use Rattle.server_spec.proofs.mount_laws.answers_fit_a_reply.Goals as goal

pub returns-clause-own : goal.returns-clause-own
returns-clause-own c = answer_is_own

pub returns-clause-spelled : goal.returns-clause-spelled
returns-clause-spelled c = answer_fits

pub returns-clause-short : goal.returns-clause-short
returns-clause-short c = answer_is_short
