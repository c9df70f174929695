-- Nodes, and the files that they are.
use Rattle.std.specs.Prelude.{◌≡◌, ℕ, ◌+◌, ◌-◌, ◌/◌, List, map, Option, option_map}
use Rattle.std.specs.Ordering.{nat_cmp}
use Rattle.std.specs.BTreeMap.{is_at}
use Rattle.std.specs.Map.{lookup}
use Rattle.std.specs.FinMap as finite
use Rattle.std.specs.Option.{option_map_or}
use Rattle.nfs_spec.specs.nfs_items.declared.attributes.Fattr.{Fattr}
use Rattle.nfs_spec.specs.nfs_items.Terms.{FileNumber}
use Rattle.nfs_spec.specs.fs_spec.Files.{Body, Regular, Symlink, Directory, File, Files}
use Rattle.nfs_spec.specs.FileAttributes.{type_of, type_bits, size_of}
use Rattle.inodes.specs.declared.inode.Body as stored
use Rattle.inodes.specs.declared.inode.Body.TheVariants as code
use Rattle.inodes.specs.declared.inode.Inode.{Inode}
use Rattle.inodes.specs.declared.inode.TheConstants.{BLOCK_SIZE}

-- what an inode holds, as callers see it
abbrev pub body_in : stored.Body → Body
body_in (code.Regular bytes) = Regular bytes.items
body_in (code.Symlink target) = Symlink target.items
body_in (code.Directory parent listing) = Directory listing

-- an inode as callers see it
abbrev pub file_in : Inode → File
file_in inode = record {
  mode = inode.mode;
  uid = inode.uid;
  gid = inode.gid;
  atime = inode.atime;
  mtime = inode.mtime;
  ctime = inode.ctime;
  body = body_in inode.body;
}

-- the inode of a number
abbrev pub inode_at : List (ℕ × Inode) → ℕ → Option Inode
inode_at inodes n = lookup (is_at (nat_cmp n)) inodes

-- the files that inodes are
abbrev pub files_of : ℕ → ℕ → List (ℕ × Inode) → Files
files_of fsid next inodes = record {
  fsid = fsid;
  next = next;
  files = finite.from_entries (map (λ (e : ℕ × Inode). (e.0, file_in e.1)) inodes);
}

-- the directory above, as kept with a directory
abbrev pub parent_in : stored.Body → ℕ
parent_in (code.Regular bytes) = 1
parent_in (code.Symlink target) = 1
parent_in (code.Directory parent listing) = parent

-- the file of a number
abbrev pub stored_at : List (ℕ × Inode) → FileNumber → Option File
stored_at inodes n = option_map file_in (inode_at inodes n)

-- the nlink that is kept with a number
abbrev pub links_at : List (ℕ × Inode) → FileNumber → ℕ
links_at inodes n = option_map_or (λ inode. inode.nlink) (inode_at inodes n) 0

-- the number of the directory above that is kept with a directory's
abbrev pub above_at : List (ℕ × Inode) → FileNumber → FileNumber
above_at inodes n = option_map_or (λ inode. parent_in inode.body) (inode_at inodes n) 1

-- a directory keeps the number of the one above
abbrev pub KeepsParent : stored.Body → ℕ → Type 0
KeepsParent (code.Regular bytes) above = Unit {0}
KeepsParent (code.Symlink target) above = Unit {0}
KeepsParent (code.Directory parent listing) above = parent ≡ above

-- an inode's attributes (RFC 1094, section 2.3.5), with the nlink that it keeps
abbrev pub fattr_of : ℕ → ℕ → Inode → Fattr
fattr_of fsid number inode = record {
  file_type = type_of (body_in inode.body);
  mode = type_bits (body_in inode.body) + inode.mode;
  nlink = inode.nlink;
  uid = inode.uid;
  gid = inode.gid;
  size = size_of (body_in inode.body);
  blocksize = BLOCK_SIZE;
  rdev = 0;
  blocks = (size_of (body_in inode.body) + (BLOCK_SIZE - 1)) / BLOCK_SIZE;
  fsid = fsid;
  fileid = number;
  atime = inode.atime;
  mtime = inode.mtime;
  ctime = inode.ctime;
}
