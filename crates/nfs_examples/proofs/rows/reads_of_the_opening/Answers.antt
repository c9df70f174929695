use Rattle.std.proofs.Common.{refl}
use Rattle.nfs_spec.proofs.OpeningFiles.{root_there, hello_there, opening_entries}
use Rattle.nfs_examples.proofs.rows.reads_of_the_opening.Goals as goal

pub returns-clause-middle : goal.returns-clause-middle
returns-clause-middle c = rw (hello_there 1) refl

pub returns-clause-end : goal.returns-clause-end
returns-clause-end c = rw (hello_there 1) refl

pub returns-clause-past : goal.returns-clause-past
returns-clause-past c = rw (hello_there 1) refl

pub returns-clause-refused : goal.returns-clause-refused
returns-clause-refused c = rw (hello_there 1) refl

pub returns-clause-none : goal.returns-clause-none
returns-clause-none c = rw (root_there 1) refl

pub returns-clause-two : goal.returns-clause-two
returns-clause-two c = rw (root_there 1) refl

pub returns-clause-last : goal.returns-clause-last
returns-clause-last c = rw (root_there 1) refl

pub returns-clause-free : goal.returns-clause-free
returns-clause-free c = rw (root_there 1, opening_entries 1) refl
