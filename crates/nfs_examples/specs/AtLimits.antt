-- Worked calls with names and bytes of any length, and where the last number or cookie was given.
use Rattle.std.specs.Prelude.{ℕ, List, [], ◌∷◌}
use Rattle.fs_spec.specs.Files.{Regular, Directory, File}
use Rattle.nfs_spec.specs.Opening.{epoch, first_file, opening_root, opening_hello}
use Rattle.nfs_examples.specs.Worked.{a, x, soon, empty_file, root_with}
use Rattle.nfs_examples.specs.Linked.{root_of}

-- the last cookie and the last number that are given
abbrev pub last : ℕ
last = 0xfffffffe

-- what is next once the last number or cookie was given
abbrev pub past_last : ℕ
past_last = 0xffffffff

-- `hello` with these bytes, written at a later time
abbrev pub hello_of : List ℕ → File
hello_of bytes = record {
  mode = 0x1a4;
  uid = 0;
  gid = 0;
  atime = epoch;
  mtime = soon;
  ctime = soon;
  body = Regular bytes;
}

-- the opening files, and `hello` with these bytes over its old file
abbrev pub with_bytes : List ℕ → List (ℕ × File)
with_bytes bytes = (2, hello_of bytes) ∷ (1, opening_root) ∷ (2, opening_hello) ∷ []

-- a file of this name, made second in the opening root
abbrev pub with_file_named : List ℕ → List (ℕ × File)
with_file_named name =
    (1, root_with name 3) ∷ (1, root_with name 3)
    ∷ (3, empty_file) ∷ (1, opening_root) ∷ (2, opening_hello) ∷ []

-- `x` made in the opening root
abbrev pub with_x : List (ℕ × File)
with_x = (1, root_of 5 ((x, (3, 4)) ∷ [])) ∷ (2, opening_hello) ∷ (3, empty_file) ∷ []

-- the opening files where the root's next cookie is another
abbrev pub with_cookie : ℕ → List (ℕ × File)
with_cookie next = (1, root_of next []) ∷ (2, opening_hello) ∷ []

-- `hello` renamed to `a` under the last cookie
abbrev pub with_last_cookie : List (ℕ × File)
with_last_cookie =
    (1, first_file 0x1ff (Directory (record { next = past_last; entries = (a, (2, last)) ∷ [] })))
    ∷ (2, opening_hello) ∷ []
