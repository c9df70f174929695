use Rattle.std.proofs.Common.{arith, ◌∙◌}
use Rattle.inode_table.proofs.KeptContents.{changed_among, changed_attributes, changed_bodies, changed_kept}
use Rattle.inode_table.proofs.KeptContents.{changed_most, changed_there, set_room}
use Rattle.inode_table.proofs.Tables.{on_any_error, kept_body, alike_kept}
use Rattle.inode_table.proofs.table.InodeTable.set.Goals as goal

pub set-requires-clause-old : goal.set-requires-clause-old
set-requires-clause-old c = kept_body c.self.inside c.self.invariant c.args.number

pub set-requires-clause-there : goal.set-requires-clause-there
set-requires-clause-there c = changed_there c.self.inside c.self.invariant
    (set_room c.self.inside c.self.invariant c.self.view_is c.args.now c.time_is_valid.ensures.time
    c.requires.valid c.requires.sized)

pub set-requires-clause-new : goal.set-requires-clause-new
set-requires-clause-new c = changed_bodies c.self.inside c.self.invariant
    (set_room c.self.inside c.self.invariant c.self.view_is c.args.now c.time_is_valid.ensures.time
    c.requires.valid c.requires.sized)

pub invariant_of-self : goal.invariant_of-self
invariant_of-self c = alike_kept c.self.inside c.self.invariant c.in_err-edited.ensures.err

pub returns-in_err-edited-clause-err : goal.returns-in_err-edited-clause-err
returns-in_err-edited-clause-err c =
    on_any_error c.from_residual.result
    (c.in_err-edited.ensures.err.files c.self.inside.fsid c.self.inside.next ∙ c.self.view_is)

pub overflow_sub-self : goal.overflow_sub-self
overflow_sub-self c = changed_among c.self.inside c.self.invariant
    (set_room c.self.inside c.self.invariant c.self.view_is c.args.now c.time_is_valid.ensures.time
    c.requires.valid c.requires.sized) c.in_ok-edited.ensures.ok c.in_ok-edited.ensures.blocks

pub overflow_add-self : goal.overflow_add-self
overflow_add-self c =
    let most = changed_most c.self.inside c.self.invariant
    (set_room c.self.inside c.self.invariant c.self.view_is c.args.now c.time_is_valid.ensures.time
    c.requires.valid c.requires.sized) c.in_ok-edited.ensures.ok c.in_ok-edited.ensures.blocks in
    omega (arith, most)

pub invariant_of-self-2 : goal.invariant_of-self-2
invariant_of-self-2 c = changed_kept c.self.inside c.self.invariant
    (set_room c.self.inside c.self.invariant c.self.view_is c.args.now c.time_is_valid.ensures.time
    c.requires.valid c.requires.sized) c.in_ok-edited.ensures.ok c.in_ok-edited.ensures.blocks
    c.in_ok-edited.ensures.words

pub returns-clause-attributes : goal.returns-clause-attributes
returns-clause-attributes c = changed_attributes c.self.inside c.self.invariant
    (set_room c.self.inside c.self.invariant c.self.view_is c.args.now c.time_is_valid.ensures.time
    c.requires.valid c.requires.sized) c.in_ok-edited.ensures.ok c.in_ok-edited.ensures.blocks
    c.in_ok-edited.ensures.words c.in_ok-edited.edited.attributes c.in_ok-edited.ensures.attributes
