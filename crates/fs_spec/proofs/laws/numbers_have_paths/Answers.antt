use Rattle.fs_spec.proofs.Reached.{path_of, path_there, no_path}
use Rattle.fs_spec.proofs.laws.numbers_have_paths.Goals as goal

pub returns-clause-path : goal.returns-clause-path
returns-clause-path c = path_of

pub returns-clause-there : goal.returns-clause-there
returns-clause-there c = path_there

pub returns-clause-gone : goal.returns-clause-gone
returns-clause-gone c = no_path
