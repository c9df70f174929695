-- The nlink of each number, and for which one a name counts.
use Rattle.std.specs.Prelude.{ℕ, if◌then◌else◌}
use Rattle.std.specs.Option.{option_map_or}
use Rattle.nfs_items.specs.Terms.{FileNumber}
use Rattle.nfs_laws.specs.fs_spec.Files.{File, Files, file_at, is_directory}
use Rattle.nfs_laws.specs.nfs_spec.FileAttributes.{nlink_of}

-- the nlink of a number's file, if there is one
abbrev pub link_count : Files → FileNumber → ℕ
link_count fs n = option_map_or (λ f. nlink_of fs n f.body) (file_at fs n) 0

-- a name of a directory counts for the one that has the name, a name of another file for the file
abbrev pub counted_for : FileNumber → FileNumber → File → FileNumber
counted_for dir number f = if is_directory f.body then dir else number
