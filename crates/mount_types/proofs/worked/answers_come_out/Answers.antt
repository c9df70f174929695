use Rattle.std.proofs.Common.{refl}
use Rattle.nfs_items.specs.xdr.Item.{number_spelling}
use Rattle.nfs_items.specs.Handle.{handle_of}
use Rattle.mount_types.proofs.worked.answers_come_out.Goals as goal

pub returns-clause-mounted : goal.returns-clause-mounted
unfolding number_spelling handle_of
returns-clause-mounted c = refl

pub returns-clause-absent : goal.returns-clause-absent
unfolding number_spelling
returns-clause-absent c = refl

pub returns-clause-refused : goal.returns-clause-refused
unfolding number_spelling
returns-clause-refused c = refl

pub returns-clause-full : goal.returns-clause-full
unfolding number_spelling
returns-clause-full c = refl

pub returns-clause-dump : goal.returns-clause-dump
unfolding number_spelling
returns-clause-dump c = refl

pub returns-clause-none : goal.returns-clause-none
unfolding number_spelling
returns-clause-none c = refl

pub returns-clause-export : goal.returns-clause-export
unfolding number_spelling
returns-clause-export c = refl
