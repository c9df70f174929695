use Rattle.mount_types.proofs.AnswersSaid.{list_ends}
use Rattle.mount_types.proofs.writing.add_list.Goals as goal

-- FALSE after the mounts ends the list
pub returns : goal.returns
returns c =
    list_ends (λ h. h.items) c.args.directory.now c.args.hosts.now c.args.out.now.items
    c.add_mounts.new.out.items c.put_u32.new.self.items c.put_u32.result c.in_ok-add_mounts.ensures
    c.put_u32.ensures.writes
