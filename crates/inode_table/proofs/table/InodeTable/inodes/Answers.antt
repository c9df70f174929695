use Rattle.std.proofs.Common.{ap, ◌∙◌}
use Rattle.std.specs.FinMap as finite
use Rattle.fs_spec.specs.Files.{Files}
use Rattle.tree_rules.specs.Listed.{files_in}
use Rattle.inode_table.proofs.GivenInodes.{in_order}
use Rattle.inode_table.proofs.table.InodeTable.inodes.Goals as goal

-- the map is gone through in order of its numbers
pub returns : goal.returns
returns c =
    let t = c.self.inside in
    ap files_in c.iter.ensures.rest ∙ in_order t.fsid t.next t.inodes.entries c.iter.ensures.ordered
    ∙ ap (λ (w : Files). finite.entries w.files) c.self.view_is
