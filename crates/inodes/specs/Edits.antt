-- What an edit of a file's contents asks of the files before it.
use Rattle.std.specs.Prelude.{◌≡◌, ℕ, ◌≤◌, ◌+◌, List, length, Some}
use Rattle.nfs_spec.specs.nfs_items.Terms.{FileNumber}
use Rattle.nfs_spec.specs.fs_spec.Maxima.{max_file_size, max_blocks}
use Rattle.nfs_spec.specs.fs_spec.Files.{Regular, File, Files, file_at}
use Rattle.nfs_spec.specs.fs_spec.Changes.Limits.{block_count, blocks_in}
use Rattle.nfs_spec.specs.Sattr.{GivenFields}
use Rattle.nfs_spec.specs.Changes.{body_with_length, with_bytes_at}

-- a file takes a size, in bytes, only where it is a regular file, and within the limits
pub record IsSizable (fs : Files) (file : File) (size : ℕ) : Type 0 where
  pub bytes : List ℕ
  pub regular : file.body ≡ Regular bytes
  pub fits : size ≤ max_file_size
  pub room : block_count fs + blocks_in (body_with_length (Some size) file.body)
      ≤ max_blocks + blocks_in file.body

-- a file is there, and takes the size that is given, if one is
pub record MaySet (fs : Files) (n : FileNumber) (a : GivenFields) : Type 0 where
  pub file : File
  pub there : file_at fs n ≡ Some file
  pub sized : (size : ℕ) → a.size ≡ Some size → IsSizable fs file size

-- a regular file is there, and bytes written into it are within the limits
pub record MayWriteAt (fs : Files) (n : FileNumber) (offset : ℕ) (new old : List ℕ) : Type 0 where
  pub file : File
  pub there : file_at fs n ≡ Some file
  pub regular : file.body ≡ Regular old
  pub fits : offset + length new ≤ max_file_size
  pub room : block_count fs + blocks_in (Regular (with_bytes_at offset new old))
      ≤ max_blocks + blocks_in file.body
