-- Changes of files: one file more, one less, one with other contents, one name more, one less.
use Rattle.std.specs.Prelude.{◌+◌}
use Rattle.std.specs.Option.{option_map_or}
use Rattle.std.specs.FinMap as finite
use Rattle.nfs_items.specs.Terms.{Name, FileNumber}
use Rattle.fs_spec.specs.Listing.{Listing, with_entry, without_entry}
use Rattle.fs_spec.specs.Files.{Body, Regular, Symlink, Directory, File, Files, file_at}

-- one more file, under the next number
abbrev pub with_new_file : Files → File → Files
with_new_file fs f = record { fsid = fs.fsid; next = fs.next + 1; files = finite.insert fs.files fs.next f }

-- the file of a number, changed; nothing where there is none
abbrev pub with_changed_file : Files → FileNumber → (File → File) → Files
with_changed_file fs n change = record fs {
  files = option_map_or (λ f. finite.insert fs.files n (change f)) (file_at fs n) fs.files;
}

-- without the file of a number, which is never used again
abbrev pub without_file : Files → FileNumber → Files
without_file fs n = record fs { files = finite.remove fs.files n }

-- only a directory lists names
abbrev pub map_body_listing : (Listing → Listing) → Body → Body
map_body_listing change (Regular bytes) = Regular bytes
map_body_listing change (Symlink target) = Symlink target
map_body_listing change (Directory l) = Directory (change l)

-- a file with a changed listing; only a directory's changes anything
abbrev pub map_listing : (Listing → Listing) → File → File
map_listing change f = record f { body = map_body_listing change f.body }

-- a name more in a directory, the last, with the directory's next cookie
abbrev pub with_name : Files → FileNumber → Name → FileNumber → Files
with_name fs dir name number = with_changed_file fs dir (map_listing (λ l. with_entry l name number))

-- a name less in a directory
abbrev pub without_name : Files → FileNumber → Name → Files
without_name fs dir name = with_changed_file fs dir (map_listing (λ l. without_entry l name))
