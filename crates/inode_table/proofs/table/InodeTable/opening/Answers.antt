use Rattle.std.proofs.Common.{sym, ap, subst, ◌∙◌, arith}
use Rattle.std.specs.Ordering.{nat_cmp}
use Rattle.std.specs.BTreeMap.{insert_entry}
use Rattle.inode_table.specs.Kept.{AreKept}
use Rattle.inode_table.proofs.OpeningInodes.{opening_inodes}
use Rattle.inode_table.proofs.table.InodeTable.opening.Goals as goal

pub invariant_of-result : goal.invariant_of-result
invariant_of-result c =
    let root = c.in_ok-root_inode in
    let hello = c.in_ok-hello_inode in
    let first = c.in_ok-insert.ensures.entries
    ∙ ap (λ es. insert_entry nat_cmp es 1 root.field-0) c.new-inodes.ensures.empty in
    let both = c.in_ok-insert-2.ensures.entries ∙ ap (λ es. insert_entry nat_cmp es 2 hello.field-0) first in
    subst (AreKept c.args.fsid 3 1 1) (sym both)
    (opening_inodes c.args.fsid root.field-0 hello.field-0 root.ensures.file root.ensures.nlink
    root.ensures.parent
    hello.ensures.file hello.ensures.nlink (omega (arith, c.ranges.fsid.fits)))
