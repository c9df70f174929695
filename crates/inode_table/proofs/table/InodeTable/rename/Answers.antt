use Rattle.std.proofs.Common.{◌∙◌}
use Rattle.inode_table.proofs.MovedEntry.{put_room, may_drop, freed_among, may_take, gone_among, to_linked}
use Rattle.inode_table.proofs.MovedEntry.{to_may_gain, moved_files, moved_kept}
use Rattle.inode_table.proofs.Tables.{on_any_error, alike_kept}
use Rattle.inode_table.proofs.table.InodeTable.rename.Goals as goal

pub put_name-requires : goal.put_name-requires
put_name-requires c = put_room c.self.inside c.self.invariant c.self.view_is c.args.now c.requires.2

pub invariant_of-self : goal.invariant_of-self
invariant_of-self c = alike_kept c.self.inside c.self.invariant c.in_err-put_name.ensures.err

pub returns-in_err-put_name-clause-err : goal.returns-in_err-put_name-clause-err
returns-in_err-put_name-clause-err c =
    on_any_error c.from_residual.result
    (c.in_err-put_name.ensures.err.files c.self.inside.fsid c.self.inside.next ∙ c.self.view_is)

pub drop_target-blocks-requires : goal.drop_target-blocks-requires
drop_target-blocks-requires c =
    may_drop c.self.inside c.self.invariant c.self.view_is c.args.now c.requires.2 c.in_ok-put_name.ensures.ok

pub take_entry-requires : goal.take_entry-requires
take_entry-requires c =
    may_take c.self.inside c.self.invariant c.self.view_is c.args.now c.requires.2 c.in_ok-put_name.ensures.ok
    c.is_directory-of_directory.ensures c.drop_target-blocks.ensures

pub add_subdirectory-requires-clause-there : goal.add_subdirectory-requires-clause-there
add_subdirectory-requires-clause-there c =
    to_linked c.self.inside c.self.invariant c.self.view_is c.args.now c.requires.2
    c.in_ok-put_name.ensures.ok
    c.is_directory-of_directory.ensures c.drop_target-blocks.ensures c.take_entry.ensures

pub add_subdirectory-requires-clause-bound : goal.add_subdirectory-requires-clause-bound
add_subdirectory-requires-clause-bound c =
    to_may_gain c.self.inside c.self.invariant c.self.view_is c.args.now c.requires.2
    c.in_ok-put_name.ensures.ok
    c.is_directory-of_directory.ensures c.drop_target-blocks.ensures c.take_entry.ensures

pub overflow_sub-self : goal.overflow_sub-self
overflow_sub-self c =
    gone_among c.self.inside c.self.invariant c.self.view_is c.args.now c.requires.2
    c.in_ok-put_name.ensures.ok
    c.is_directory-of_directory.ensures c.drop_target-blocks.ensures
    c.replaced_count.ensures.none c.replaced_count.ensures.some

pub overflow_sub-self-2 : goal.overflow_sub-self-2
overflow_sub-self-2 c =
    freed_among c.self.inside c.self.invariant c.self.view_is c.args.now c.requires.2
    c.in_ok-put_name.ensures.ok
    c.is_directory-of_directory.ensures c.drop_target-blocks.ensures

pub invariant_of-self-2 : goal.invariant_of-self-2
invariant_of-self-2 c =
    moved_kept c.self.inside c.self.invariant c.self.view_is c.args.now c.requires.2
    c.in_ok-put_name.ensures.ok
    c.is_directory-of_directory.ensures c.drop_target-blocks.ensures c.take_entry.ensures
    c.add_subdirectory.ensures c.set_parent.ensures c.set_ctime.ensures c.touch.ensures c.touch-2.ensures
    c.time_is_valid.ensures.time c.time_is_valid.ensures.word
    c.replaced_count.ensures.none c.replaced_count.ensures.some

pub returns-clause-ok : goal.returns-clause-ok
returns-clause-ok c =
    moved_files c.self.inside c.self.invariant c.self.view_is c.args.now c.requires.2
    c.in_ok-put_name.ensures.ok
    c.is_directory-of_directory.ensures c.drop_target-blocks.ensures c.take_entry.ensures
    c.add_subdirectory.ensures c.set_parent.ensures c.set_ctime.ensures c.touch.ensures c.touch-2.ensures
