use Rattle.std.proofs.Common.{◌∙◌}
use Rattle.inode_table.proofs.KeptNames.{next_stored, make_room, make_links, made_files, make_kept}
use Rattle.inode_table.proofs.Tables.{on_any_error, alike_kept}
use Rattle.inode_table.proofs.table.InodeTable.make.Goals as goal

pub add_named-requires-clause-directory : goal.add_named-requires-clause-directory
add_named-requires-clause-directory c =
    make_room c.self.inside c.self.invariant c.self.view_is c.requires

pub add_named-requires-clause-free : goal.add_named-requires-clause-free
add_named-requires-clause-free c = next_stored c.self.inside c.self.invariant

pub add_named-requires-clause-bound : goal.add_named-requires-clause-bound
add_named-requires-clause-bound c = make_links c.self.inside c.self.invariant c.self.view_is c.requires

pub invariant_of-self : goal.invariant_of-self
invariant_of-self c = alike_kept c.self.inside c.self.invariant c.in_err-add_named.ensures.err

pub returns-in_err-add_named-clause-err : goal.returns-in_err-add_named-clause-err
returns-in_err-add_named-clause-err c =
    on_any_error c.from_residual.result
    (c.in_err-add_named.ensures.err.files c.self.inside.fsid c.self.inside.next ∙ c.self.view_is)

pub invariant_of-self-2 : goal.invariant_of-self-2
invariant_of-self-2 c =
    make_kept c.self.inside c.self.invariant c.self.view_is c.requires c.args.now c.in_ok-add_named.ensures.ok
    c.with_links-inode.ensures.file c.time_is_valid.ensures.time c.time_is_valid.ensures.word
    c.is_directory-of_directory.ensures c.blocks-blocks.ensures c.with_links-inode.ensures.nlink
    c.with_links-inode.ensures.parent

pub returns-clause-ok : goal.returns-clause-ok
returns-clause-ok c =
    made_files c.self.inside c.self.invariant c.self.view_is c.requires c.args.now
    c.in_ok-add_named.ensures.ok
    c.with_links-inode.ensures.file
