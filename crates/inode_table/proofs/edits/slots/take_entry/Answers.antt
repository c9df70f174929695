use Rattle.std.proofs.Common.{◌+◌, cond, ap, ◌∙◌}
use Rattle.tree_rules.specs.inodes.Inodes.{links_at}
use Rattle.inode_table.proofs.edits.slots.take_entry.Goals as goal

pub returns-then-of_directory : goal.returns-then-of_directory
returns-then-of_directory c =
    let taken = c.take_name.ensures in
    let dropped = c.drop_link.ensures in
    record {
      files = λ fsid next. dropped.others.files fsid next ∙ taken.files fsid next;
      own = ap (λ b. links_at c.drop_link.new.inodes.entries c.args.dir + cond b 1 0) c.if-of_directory.true
          ∙ dropped.own ∙ taken.links c.args.dir;
      links = λ n ne. dropped.others.links n ne ∙ taken.links n;
      above = λ n. dropped.others.above n ∙ taken.above n;
    }
