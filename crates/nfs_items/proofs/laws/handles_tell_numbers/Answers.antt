use Rattle.nfs_items.proofs.Handles.{number_in-handle_of, number_in-is, handle_of-same}
use Rattle.nfs_items.proofs.laws.handles_tell_numbers.Goals as goal

pub returns-clause-given : goal.returns-clause-given
returns-clause-given c = number_in-handle_of

pub returns-clause-exact : goal.returns-clause-exact
returns-clause-exact c = number_in-is

pub returns-clause-one_file : goal.returns-clause-one_file
returns-clause-one_file c = handle_of-same
