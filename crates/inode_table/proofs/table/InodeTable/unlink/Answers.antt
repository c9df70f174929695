use Rattle.inode_table.proofs.KeptRemoval.{may_unname, some_entry, freed_among, unlinked_files, unlink_kept}
use Rattle.inode_table.proofs.table.InodeTable.unlink.Goals as goal

pub unlink-freed-requires : goal.unlink-freed-requires
unlink-freed-requires c =
    (c.requires.1, may_unname c.self.inside c.self.invariant c.self.view_is c.args.now c.requires.2)

pub overflow_sub-self : goal.overflow_sub-self
overflow_sub-self c = some_entry c.self.inside c.self.invariant c.self.view_is c.args.now c.requires.2

pub overflow_sub-self-2 : goal.overflow_sub-self-2
overflow_sub-self-2 c =
    freed_among c.self.inside c.self.invariant c.self.view_is c.args.now c.requires.2 c.unlink-freed.ensures
    c.touch.ensures

pub invariant_of-self : goal.invariant_of-self
invariant_of-self c =
    unlink_kept c.self.inside c.self.invariant c.self.view_is c.args.now c.requires.2 c.unlink-freed.ensures
    c.touch.ensures c.time_is_valid.ensures.time c.time_is_valid.ensures.word

-- the name goes and the directory is touched
pub returns : goal.returns
returns c =
    unlinked_files c.self.inside c.self.invariant c.self.view_is c.args.now c.requires.2
    c.unlink-freed.ensures
    c.touch.ensures
