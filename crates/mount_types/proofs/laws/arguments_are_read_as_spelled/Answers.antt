use Rattle.nfs_items.proofs.Programs as programs
use Rattle.mount_types.specs.Texts.{mount_program}
use Rattle.mount_types.proofs.ArgumentsRead.{own_value, no_procedure}
use Rattle.mount_types.proofs.laws.arguments_are_read_as_spelled.Goals as goal

pub returns-clause-exact : goal.returns-clause-exact
returns-clause-exact c = programs.read_as_said mount_program

pub returns-clause-faults : goal.returns-clause-faults
returns-clause-faults c = programs.fault_is mount_program

pub returns-clause-none : goal.returns-clause-none
returns-clause-none c = no_procedure

pub returns-clause-one_call : goal.returns-clause-one_call
returns-clause-one_call c = programs.one_call mount_program

pub returns-clause-own : goal.returns-clause-own
returns-clause-own c = programs.own_call mount_program own_value
