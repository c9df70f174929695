use Rattle.std.proofs.Common.{sym, ap, ◌∙◌}
use Rattle.fs_spec.specs.Changes.Limits.{file_count}
use Rattle.inode_table.proofs.InodesSeen.{count_seen}
use Rattle.inode_table.proofs.table.InodeTable.file_count.Goals as goal

-- the map has one entry for each file
pub returns : goal.returns
returns c =
    let inside = c.self.inside in
    c.len.ensures.len ∙ sym (count_seen inside.fsid inside.next inside.inodes.entries c.len.ensures.ordered)
    ∙ ap file_count c.self.view_is
