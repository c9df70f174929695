use Rattle.std.proofs.Common.{◌∙◌}
use Rattle.inode_table.proofs.KeptNames.{link_room, link_there, link_bound, linked_files, link_kept}
use Rattle.inode_table.proofs.Tables.{on_any_error, alike_kept}
use Rattle.inode_table.proofs.table.InodeTable.link.Goals as goal

pub put_name-requires : goal.put_name-requires
put_name-requires c = link_room c.self.inside c.self.invariant c.self.view_is c.requires.1

pub invariant_of-self : goal.invariant_of-self
invariant_of-self c = alike_kept c.self.inside c.self.invariant c.in_err-put_name.ensures.err

pub returns-in_err-put_name-clause-err : goal.returns-in_err-put_name-clause-err
returns-in_err-put_name-clause-err c =
    on_any_error c.from_residual.result
    (c.in_err-put_name.ensures.err.files c.self.inside.fsid c.self.inside.next ∙ c.self.view_is)

pub add_link-requires-clause-there : goal.add_link-requires-clause-there
add_link-requires-clause-there c =
    link_there c.self.inside c.self.invariant c.self.view_is c.requires.1 c.in_ok-put_name.ensures.ok

pub add_link-requires-clause-bound : goal.add_link-requires-clause-bound
add_link-requires-clause-bound c =
    link_bound c.self.inside c.self.invariant c.self.view_is c.requires.1 c.in_ok-put_name.ensures.ok

pub invariant_of-self-2 : goal.invariant_of-self-2
invariant_of-self-2 c =
    link_kept c.self.inside c.self.invariant c.self.view_is c.requires.1 c.in_ok-put_name.ensures.ok
    c.args.now
    c.add_link.ensures.others c.add_link.ensures.own c.set_ctime.ensures c.touch.ensures
    c.time_is_valid.ensures.time c.time_is_valid.ensures.word

pub returns-clause-ok : goal.returns-clause-ok
returns-clause-ok c =
    linked_files c.self.inside c.self.invariant c.self.view_is c.requires.1 c.in_ok-put_name.ensures.ok
    c.args.now
    c.add_link.ensures.others c.add_link.ensures.own c.set_ctime.ensures c.touch.ensures
