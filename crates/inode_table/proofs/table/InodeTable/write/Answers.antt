use Rattle.std.proofs.Common.{arith, ◌∙◌}
use Rattle.inode_table.proofs.KeptContents.{changed_among, changed_attributes, changed_bodies, changed_kept}
use Rattle.inode_table.proofs.KeptContents.{changed_most, changed_there, write_room, written_files}
use Rattle.inode_table.proofs.Tables.{on_any_error, kept_body, alike_kept}
use Rattle.inode_table.proofs.table.InodeTable.write.Goals as goal

pub write-requires-clause-old : goal.write-requires-clause-old
write-requires-clause-old c = kept_body c.self.inside c.self.invariant c.args.number

pub write-requires-clause-there : goal.write-requires-clause-there
write-requires-clause-there c = changed_there c.self.inside c.self.invariant
    (write_room c.self.inside c.self.invariant c.self.view_is c.args.now c.time_is_valid.ensures.time
    c.requires.1)

pub write-requires-clause-new : goal.write-requires-clause-new
write-requires-clause-new c = changed_bodies c.self.inside c.self.invariant
    (write_room c.self.inside c.self.invariant c.self.view_is c.args.now c.time_is_valid.ensures.time
    c.requires.1)

pub write-requires-clause-bytes : goal.write-requires-clause-bytes
write-requires-clause-bytes c = let fits = c.requires.1.fits in omega (arith, fits)

pub invariant_of-self : goal.invariant_of-self
invariant_of-self c = alike_kept c.self.inside c.self.invariant c.in_err-edited.ensures.err

pub returns-in_err-edited-clause-err : goal.returns-in_err-edited-clause-err
returns-in_err-edited-clause-err c =
    on_any_error c.from_residual.result
    (c.in_err-edited.ensures.err.files c.self.inside.fsid c.self.inside.next ∙ c.self.view_is)

pub overflow_sub-self : goal.overflow_sub-self
overflow_sub-self c = changed_among c.self.inside c.self.invariant
    (write_room c.self.inside c.self.invariant c.self.view_is c.args.now c.time_is_valid.ensures.time
    c.requires.1) c.in_ok-edited.ensures.ok c.in_ok-edited.ensures.blocks

pub overflow_add-self : goal.overflow_add-self
overflow_add-self c =
    let most = changed_most c.self.inside c.self.invariant
    (write_room c.self.inside c.self.invariant c.self.view_is c.args.now c.time_is_valid.ensures.time
    c.requires.1) c.in_ok-edited.ensures.ok c.in_ok-edited.ensures.blocks in
    omega (arith, most)

pub invariant_of-self-2 : goal.invariant_of-self-2
invariant_of-self-2 c = changed_kept c.self.inside c.self.invariant
    (write_room c.self.inside c.self.invariant c.self.view_is c.args.now c.time_is_valid.ensures.time
    c.requires.1) c.in_ok-edited.ensures.ok c.in_ok-edited.ensures.blocks
    c.in_ok-edited.ensures.words

pub returns-clause-attributes : goal.returns-clause-attributes
returns-clause-attributes c = changed_attributes c.self.inside c.self.invariant
    (write_room c.self.inside c.self.invariant c.self.view_is c.args.now c.time_is_valid.ensures.time
    c.requires.1) c.in_ok-edited.ensures.ok c.in_ok-edited.ensures.blocks
    c.in_ok-edited.ensures.words c.in_ok-edited.edited.attributes c.in_ok-edited.ensures.attributes

pub returns-clause-ok : goal.returns-clause-ok
returns-clause-ok c old may =
    written_files c.self.inside c.self.invariant c.self.view_is c.args.now c.time_is_valid.ensures.time may
    c.in_ok-edited.ensures.ok
