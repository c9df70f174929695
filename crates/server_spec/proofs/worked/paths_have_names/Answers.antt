use Rattle.std.proofs.Common.{refl}
use Rattle.server_spec.proofs.worked.paths_have_names.Goals as goal

pub returns-clause-root : goal.returns-clause-root
returns-clause-root c = refl

pub returns-clause-slashes : goal.returns-clause-slashes
returns-clause-slashes c = refl

pub returns-clause-names : goal.returns-clause-names
returns-clause-names c = refl

pub returns-clause-relative : goal.returns-clause-relative
returns-clause-relative c = refl

pub returns-clause-empty : goal.returns-clause-empty
returns-clause-empty c = refl
