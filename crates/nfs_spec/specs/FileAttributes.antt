-- Attributes (RFC 1094, section 2.3.5), as counts over the files.
use Rattle.std.specs.Prelude.{ℕ, ◌+◌, ◌/◌, Bool, length, count_by}
use Rattle.std.specs.Option.{option_map_or}
use Rattle.std.proofs.Common.{false}
use Rattle.fs_spec.specs.nfs_items.declared.attributes.FileType.{FileType}
use Rattle.fs_spec.specs.nfs_items.declared.attributes.FileType.TheVariants as types
use Rattle.fs_spec.specs.nfs_items.declared.attributes.Fattr.{Fattr}
use Rattle.fs_spec.specs.nfs_items.Terms.{FileNumber}
use Rattle.fs_spec.specs.Listing.{Listing, entry_number}
use Rattle.fs_spec.specs.Files.{Body, Regular, Symlink, Directory, File, Files, file_at, is_directory}
use Rattle.fs_spec.specs.Files.{names_of}

-- ftype: NFREG, NFLNK or NFDIR, by what a file holds
abbrev pub type_of : Body → FileType
type_of (Regular bytes) = types.Regular
type_of (Symlink target) = types.Symlink
type_of (Directory l) = types.Directory

-- the bits of a mode that tell the type
abbrev pub type_bits : Body → ℕ
type_bits (Regular bytes) = 0o100000
type_bits (Symlink target) = 0o120000
type_bits (Directory l) = 0o040000

-- whether a number is a directory's
abbrev pub is_directory_at : Files → FileNumber → Bool
is_directory_at fs n = option_map_or (λ f. is_directory f.body) (file_at fs n) false

-- how many entries of a listing are directories'
abbrev pub subdirectories : Files → Listing → ℕ
subdirectories fs l = count_by (λ e. is_directory_at fs (entry_number e)) l.entries

-- a regular file or symbolic link has its names; a directory two, and its subdirectories
abbrev pub nlink_of : Files → FileNumber → Body → ℕ
nlink_of fs n (Regular bytes) = names_of fs n
nlink_of fs n (Symlink target) = names_of fs n
nlink_of fs n (Directory l) = 2 + subdirectories fs l

-- in bytes
abbrev pub size_of : Body → ℕ
size_of (Regular bytes) = length bytes
size_of (Symlink target) = length target
size_of (Directory l) = 512

-- fattr: the attributes of a file under its number
abbrev pub attributes_of : Files → FileNumber → File → Fattr
attributes_of fs n f = record {
  file_type = type_of f.body;
  mode = type_bits f.body + f.mode;
  nlink = nlink_of fs n f.body;
  uid = f.uid;
  gid = f.gid;
  size = size_of f.body;
  blocksize = 512;
  rdev = 0;
  blocks = (size_of f.body + 511) / 512;
  fsid = fs.fsid;
  fileid = n;
  atime = f.atime;
  mtime = f.mtime;
  ctime = f.ctime;
}
