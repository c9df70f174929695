-- The files that each server begins with: the directory `/`, and in it the regular file `hello`.
use Rattle.std.specs.Prelude.{ℕ, [], ◌∷◌, codes}
use Rattle.std.specs.FinMap as finite
use Rattle.fs_spec.specs.nfs_items.Timeval.{Timeval}
use Rattle.fs_spec.specs.nfs_items.Terms.{Name}
use Rattle.fs_spec.specs.Files.{Body, Regular, Directory, File, Files}

-- the start of 1970
abbrev pub epoch : Timeval
epoch = record { seconds = 0; microseconds = 0 }

-- the name of the one file that is there at first
abbrev pub hello : Name
hello = codes "hello"

-- a file of user and group 0 whose times are 0
abbrev pub first_file : ℕ → Body → File
first_file mode body = record {
  mode = mode;
  uid = 0;
  gid = 0;
  atime = epoch;
  mtime = epoch;
  ctime = epoch;
  body = body;
}

-- the one entry has number 2 and cookie 3
abbrev pub opening_root : File
opening_root = first_file 0o777 (Directory (record { next = 4; entries = (hello, (2, 3)) ∷ [] }))

-- `hello` and a line feed
abbrev pub opening_hello : File
opening_hello = first_file 0o644 (Regular (codes "hello\n"))

-- the files that the server of a node begins with
abbrev pub opening_files : ℕ → Files
opening_files fsid = record {
  fsid = fsid;
  next = 3;
  files = finite.from_entries ((1, opening_root) ∷ (2, opening_hello) ∷ []);
}
