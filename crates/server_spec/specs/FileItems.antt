-- The text of a file (RFC 4506): its number, its kind, its attributes and what it holds.
use Rattle.std.specs.Prelude.{ℕ, Bool, List, ◌==◌, ◌||◌, if◌then◌else◌}
use Rattle.sha2.specs.Sha256.{sha256}
use Rattle.xdr.specs.Item.{Item, Value, word, opaque, pair, array, choice, spelling}
use Rattle.mount_types.specs.nfs_items.Timeval.{timeval, timeval_value}
use Rattle.nfs_laws.specs.fs_spec.Maxima.{max_file_size, max_target, max_name, max_entries}
use Rattle.nfs_laws.specs.fs_spec.Listing.{NamedEntry}
use Rattle.nfs_laws.specs.fs_spec.Files.{Body, Regular, Symlink, Directory, File}

-- an entry of a directory: name, number and cookie
abbrev pub entry_item : Item
entry_item = pair (opaque max_name) (pair word word)

-- a regular file is 1, a directory 2, a symbolic link 5 (RFC 1094, section 2.3.2)
abbrev pub is_file_kind : ℕ → Bool
is_file_kind n = n == 1 || (n == 2 || n == 5)

-- the bytes of a regular file; the target of a symbolic link; the next cookie of a directory and its entries
abbrev pub body_item : ℕ → Item
body_item kind =
    if kind == 1 then opaque max_file_size
    else if kind == 5 then opaque max_target
    else pair word (array max_entries entry_item)

-- mode, uid, gid and the three times
abbrev pub attributes_item : Item
attributes_item = pair word (pair word (pair word (pair timeval (pair timeval timeval))))

-- what stands after a file's kind
abbrev pub kind_item : ℕ → Item
kind_item kind = pair attributes_item (body_item kind)

-- a file: its number, its kind, its attributes and what it holds
abbrev pub file_item : Item
file_item = pair word (choice is_file_kind kind_item)

-- what is said of an entry
abbrev pub entry_value : NamedEntry → Value entry_item
entry_value e = e

-- what is said of a file's attributes
abbrev pub attributes_value : File → Value attributes_item
attributes_value f =
    (f.mode, (f.uid, (f.gid, (timeval_value f.atime, (timeval_value f.mtime, timeval_value f.ctime)))))

-- what is said of a file's kind, its attributes and a body
abbrev pub kind_value : File → Body → Value (choice is_file_kind kind_item)
kind_value f (Regular bytes) = (1, (attributes_value f, bytes))
kind_value f (Symlink target) = (5, (attributes_value f, target))
kind_value f (Directory l) = (2, (attributes_value f, (l.next, l.entries)))

-- what is said of a file and its number
abbrev pub file_value : ℕ × File → Value file_item
file_value e = (e.0, kind_value e.1 e.1.body)

-- the digest of a file's text
unfoldable pub file_digest : ℕ × File → List ℕ
file_digest e = sha256 (spelling file_item (file_value e))
