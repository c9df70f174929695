use Rattle.std.proofs.Common.{refl}
use Rattle.server_spec.proofs.worked.mounts_are_taken_out.Goals as goal

pub returns-clause-root : goal.returns-clause-root
returns-clause-root c = refl

pub returns-clause-other : goal.returns-clause-other
returns-clause-other c = refl

pub returns-clause-all : goal.returns-clause-all
returns-clause-all c = refl
