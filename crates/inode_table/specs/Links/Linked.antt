-- What is kept beside each file is what counting over all files gives.
use Rattle.std.specs.Prelude.{◌≡◌, List, Some, true}
use Rattle.fs_spec.specs.nfs_items.Terms.{FileNumber}
use Rattle.fs_spec.specs.Files.{Body, Files, is_directory, parent_of}
use Rattle.nfs_count_laws.specs.nfs_spec.FileAttributes.{nlink_of}
use Rattle.tree_rules.specs.inodes.Inodes.{KeepsParent, body_in, inode_at}
use Rattle.tree_rules.specs.inodes.declared.inode.Inode.{Inode}
use Rattle.inode_table.specs.declared.links.links.Links.{Links}

-- the nlink of a number, and of a directory the number of the one above
pub record IsLinks (fs : Files) (n : FileNumber) (body : Body) (links : Links) : Type 0 where
  pub nlink_is : links.nlink ≡ nlink_of fs n body
  pub parent_is : is_directory body ≡ true → links.parent ≡ parent_of fs n

-- an inode keeps the nlink of its number and, of a directory, the number of the one above
pub record IsLinked (fs : Files) (n : FileNumber) (inode : Inode) : Type 0 where
  pub nlink_is : inode.nlink ≡ nlink_of fs n (body_in inode.body)
  pub parent_is : KeepsParent inode.body (parent_of fs n)

-- so does each
abbrev pub AreLinked : Files → List (FileNumber × Inode) → Type 0
AreLinked fs inodes = (n : FileNumber) (inode : Inode) → inode_at inodes n ≡ Some inode → IsLinked fs n inode
