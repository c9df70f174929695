use Rattle.std.proofs.Common.{refl, append-nil}
use Rattle.nfs_spec.proofs.OpeningFiles.{hello_there}
use Rattle.nfs_examples.specs.AtLimits.{with_bytes}
use Rattle.nfs_examples.proofs.Computed.{file_of_list, room_of, entries_of}
use Rattle.nfs_examples.proofs.at_limits.any_text_is_written.Goals as goal

pub returns-clause-whole : goal.returns-clause-whole
returns-clause-whole c new long =
    rw (hello_there 1, long, append-nil new, room_of 3 (with_bytes new), long) refl

pub returns-clause-size : goal.returns-clause-size
returns-clause-size c new long =
    rw (file_of_list 3 (with_bytes new) 2, entries_of 3 (with_bytes new), long) refl

pub returns-clause-refused : goal.returns-clause-refused
returns-clause-refused c new = rw (hello_there 1) refl
