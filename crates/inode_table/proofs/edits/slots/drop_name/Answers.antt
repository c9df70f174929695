use Rattle.std.proofs.Common.{◌+◌, sym, ap, subst, ◌∙◌}
use Rattle.nfs_count_laws.specs.nfs_spec.Changes.{touch_ctime}
use Rattle.inode_table.specs.Edits.Slots.{DropsName}
use Rattle.inode_table.proofs.edits.slots.drop_name.Goals as goal

pub returns-then-is_last-clause-change : goal.returns-then-is_last-clause-change
returns-then-is_last-clause-change c =
    let removed = c.remove_file.ensures.change in
    subst (λ b. DropsName c.args.now c.args.number b c.args.inodes.now.entries
    c.remove_file.new.inodes.entries)
    (sym c.if-is_last.true)
    (record { files = removed.files; own = λ h. cc; links = removed.links; above = removed.above })

pub returns-clause-change : goal.returns-clause-change
returns-clause-change c =
    let dropped = c.drop_link.ensures in
    let set = c.set_ctime.ensures in
    subst (λ b. DropsName c.args.now c.args.number b c.args.inodes.now.entries c.set_ctime.new.inodes.entries)
    (sym c.if-is_last.false)
    (record {
      files = λ fsid next. set.files fsid next
          ∙ ap (λ w. touch_ctime c.args.now w c.args.number) (dropped.others.files fsid next);
      own = λ h. ap (λ m. m + 1) (set.links c.args.number) ∙ dropped.own;
      links = λ n ne. set.links n ∙ dropped.others.links n ne;
      above = λ n ne. set.above n ∙ dropped.others.above n;
    })
