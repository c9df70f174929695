-- Inodes in a list by rising number, as files.
use Rattle.std.specs.Prelude.{ℕ, List, length, map, sum_by}
use Rattle.nfs_items.specs.Terms.{FileNumber}
use Rattle.nfs_laws.specs.fs_spec.Files.{File, listing_in}
use Rattle.nfs_laws.specs.fs_spec.Trees.{IsFileTree}
use Rattle.nfs_laws.specs.fs_spec.Changes.Limits.{blocks_in}
use Rattle.inodes.specs.Inodes.{file_in, files_of}
use Rattle.inodes.specs.declared.inode.Inode.{Inode}

-- the files that inodes are, with their numbers
abbrev pub files_in : List (FileNumber × Inode) → List (FileNumber × File)
files_in inodes = map (λ (e : FileNumber × Inode). (e.0, file_in e.1)) inodes

-- how many entries there are in all
abbrev pub entries_among : List (FileNumber × File) → ℕ
entries_among es = sum_by (λ (e : FileNumber × File). length (listing_in e.1.body).entries) es

-- how many blocks there are in all
abbrev pub blocks_among : List (FileNumber × File) → ℕ
blocks_among es = sum_by (λ (e : FileNumber × File). blocks_in e.1.body) es

-- the files of inodes are a tree, under some next number
abbrev pub AreTree : List (FileNumber × Inode) → Type 0
AreTree inodes = (fsid : ℕ) × (next : FileNumber) × IsFileTree (files_of fsid next inodes)
