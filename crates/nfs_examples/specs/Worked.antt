-- Worked calls on small files: the files before and after, newest change first. Modes are 0777 (0x1ff), 0755
-- (0x1ed) and 0644 (0x1a4).
use Rattle.std.specs.Prelude.{ℕ, List, [], ◌∷◌, ◌++◌, codes, replicate, None}
use Rattle.std.specs.FinMap as finite
use Rattle.nfs_items.specs.Timeval.{Timeval}
use Rattle.nfs_items.specs.Caller.{Caller}
use Rattle.fs_spec.specs.Files.{Regular, Symlink, Directory, File, Files}
use Rattle.nfs_items.specs.declared.sattr.Sattr.{Sattr}
use Rattle.nfs_spec.specs.Opening.{epoch, first_file, hello, opening_root, opening_hello}

-- user and group 0
abbrev pub superuser : Caller
superuser = record { uid = 0; gid = 0; gids = []; machine_name = None }

-- what a sattr has where a field is to be ignored (RFC 1094, section 2.3.6)
abbrev pub ignored : ℕ
ignored = 0xffffffff

-- nothing is asked but a size
abbrev pub size_alone : ℕ → Sattr
size_alone size = record {
  mode = ignored;
  uid = ignored;
  gid = ignored;
  size = size;
  atime = record { seconds = ignored; microseconds = 0 };
  mtime = record { seconds = ignored; microseconds = 0 };
}

-- files with the numbers that a list gives them
abbrev pub files_from : ℕ → List (ℕ × File) → Files
files_from next es = record { fsid = 1; next = next; files = finite.from_entries es }

-- `a`
abbrev pub a : List ℕ
a = codes "a"

-- the root with `hello` and what is made second, under cookie 4
abbrev pub root_with : List ℕ → ℕ → File
root_with name number =
    first_file 0x1ff (Directory (record { next = 5; entries = (hello, (2, 3)) ∷ (name, (number, 4)) ∷ [] }))

-- a directory with nothing in it
abbrev pub empty_directory : File
empty_directory = first_file 0x1ed (Directory (record { next = 3; entries = [] }))

-- after MKDIR of `a` in the opening root, the newest first
abbrev pub with_directory : List (ℕ × File)
with_directory =
    (1, root_with a 3) ∷ (1, root_with a 3) ∷ (3, empty_directory)
    ∷ (1, opening_root) ∷ (2, opening_hello) ∷ []

-- `d`
abbrev pub d : List ℕ
d = codes "d"

-- the root while `a` is renamed to `d`, without the entry: it comes last, with a new cookie
abbrev pub root_between : File
root_between = first_file 0x1ff (Directory (record { next = 5; entries = (hello, (2, 3)) ∷ [] }))

-- the root after that, with `d` last
abbrev pub root_renamed : File
root_renamed =
    first_file 0x1ff (Directory (record { next = 6; entries = (hello, (2, 3)) ∷ (d, (3, 5)) ∷ [] }))

-- after RENAME of `a` to `d`
abbrev pub with_renamed : List (ℕ × File)
with_renamed =
    (1, root_renamed) ∷ (1, root_renamed) ∷ (3, empty_directory) ∷ (1, root_renamed) ∷ (1, root_between)
    ∷ with_directory

-- after LINK of `hello` as `a`
abbrev pub with_link : List (ℕ × File)
with_link =
    (1, root_with a 2) ∷ (1, root_with a 2) ∷ (2, opening_hello) ∷ (1, opening_root) ∷ (2, opening_hello) ∷ []

-- a time after the epoch
abbrev pub soon : Timeval
soon = record { seconds = 7; microseconds = 5 }

-- `hello` when one byte is written at 512: the old bytes, zeros, and the byte
abbrev pub hello_written : File
hello_written = record {
  mode = 0x1a4;
  uid = 0;
  gid = 0;
  atime = epoch;
  mtime = soon;
  ctime = soon;
  body = Regular (codes "hello\n" ++ (replicate 506 0 ++ codes "A"));
}

-- after that WRITE
abbrev pub with_written : List (ℕ × File)
with_written = (2, hello_written) ∷ (1, opening_root) ∷ (2, opening_hello) ∷ []

-- a regular file with nothing in it
abbrev pub empty_file : File
empty_file = first_file 0x1a4 (Regular [])

-- `hello` with nothing in it
abbrev pub with_cut : List (ℕ × File)
with_cut = (2, empty_file) ∷ (1, opening_root) ∷ (2, opening_hello) ∷ []

-- after LINK and then REMOVE of that name
abbrev pub with_unlinked : List (ℕ × File)
with_unlinked = (1, root_between) ∷ (2, opening_hello) ∷ (1, root_between) ∷ with_link

-- a file that is made second in the opening root, as `a`
abbrev pub with_made : File → List (ℕ × File)
with_made f = (1, root_with a 3) ∷ (1, root_with a 3) ∷ (3, f) ∷ (1, opening_root) ∷ (2, opening_hello) ∷ []

-- the root with nothing in it, when `hello` is removed
abbrev pub root_emptied : File
root_emptied = first_file 0x1ff (Directory (record { next = 4; entries = [] }))

-- the root with a new `hello`, under the next number and the next cookie
abbrev pub root_again : File
root_again = first_file 0x1ff (Directory (record { next = 5; entries = (hello, (3, 4)) ∷ [] }))

-- a new file under the name that was removed: the next number, and the next cookie
abbrev pub with_next : List (ℕ × File)
with_next = (1, root_again) ∷ (1, root_again) ∷ (3, empty_file) ∷ (1, root_emptied) ∷ []

-- a symbolic link to `t`
abbrev pub link_to_t : File
link_to_t = first_file 0x1ff (Symlink (codes "t"))

-- `b`
abbrev pub b : List ℕ
b = codes "b"

-- `c`
abbrev pub c : List ℕ
c = codes "c"

-- a directory with one name
abbrev pub directory_of : List ℕ → ℕ → File
directory_of name number =
    first_file 0x1ed (Directory (record { next = 4; entries = (name, (number, 3)) ∷ [] }))

-- `b` made in the directory `a`
abbrev pub with_inner : List (ℕ × File)
with_inner = (3, directory_of b 4) ∷ (3, directory_of b 4) ∷ (4, empty_directory) ∷ with_directory

-- and `c` made in `b`
abbrev pub with_nested : List (ℕ × File)
with_nested = (4, directory_of c 5) ∷ (4, directory_of c 5) ∷ (5, empty_file) ∷ with_inner

-- `a` renamed to `d`, with all that is below
abbrev pub with_nested_renamed : List (ℕ × File)
with_nested_renamed =
    (1, root_renamed) ∷ (1, root_renamed) ∷ (3, directory_of b 4) ∷ (1, root_renamed) ∷ (1, root_between)
    ∷ with_nested

-- `x`
abbrev pub x : List ℕ
x = codes "x"

-- `y`
abbrev pub y : List ℕ
y = codes "y"

-- the root with `hello`, `x` and `y` under cookies 3 to 5
abbrev pub root_of_three : File
root_of_three =
    first_file 0x1ff
    (Directory (record { next = 6; entries = (hello, (2, 3)) ∷ (x, (3, 4)) ∷ (y, (4, 5)) ∷ [] }))

-- the same root without `hello`
abbrev pub root_of_two : File
root_of_two = first_file 0x1ff (Directory (record { next = 6; entries = (x, (3, 4)) ∷ (y, (4, 5)) ∷ [] }))

-- files with that root of three, before `hello` is removed
abbrev pub with_three : List (ℕ × File)
with_three = (1, root_of_three) ∷ (2, opening_hello) ∷ (3, empty_file) ∷ (4, empty_file) ∷ []

-- files with the root of two, after `hello` was removed
abbrev pub with_two : List (ℕ × File)
with_two = (1, root_of_two) ∷ (3, empty_file) ∷ (4, empty_file) ∷ []
