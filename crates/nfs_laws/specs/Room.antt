-- What room a call asks for, told by the files before it.
use Rattle.std.specs.Prelude.{ℕ, ◌+◌, ◌<◌, ◌≤◌}
use Rattle.nfs_spec.specs.nfs_items.Terms.{Cookie}
use Rattle.nfs_spec.specs.fs_spec.Maxima.{max_files, max_entries, max_blocks, max_number}
use Rattle.nfs_spec.specs.fs_spec.Files.{Files}
use Rattle.nfs_spec.specs.fs_spec.Changes.Limits.{file_count, entry_count, block_count}

-- room for one more file of so many blocks, under the next number, with an entry in a directory whose next
-- cookie is this
pub record HasRoomToMake (fs : Files) (next_cookie : Cookie) (blocks_more : ℕ) : Type 0 where
  pub files : file_count fs < max_files
  pub entries : entry_count fs < max_entries
  pub blocks : block_count fs + blocks_more ≤ max_blocks
  pub number : fs.next ≤ max_number
  pub cookie : next_cookie ≤ max_number

-- room for one more entry in a directory whose next cookie is this
pub record HasRoomToLink (fs : Files) (next_cookie : Cookie) : Type 0 where
  pub entries : entry_count fs < max_entries
  pub cookie : next_cookie ≤ max_number
