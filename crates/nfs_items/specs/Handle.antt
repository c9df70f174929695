-- File handles (RFC 1094, section 2.3.3, fhandle): 32 bytes that only the server reads.
-- This server's have the node's number and the file's number, four bytes each, and 24 zero bytes.
use Rattle.std.specs.Prelude.{ℕ, List, ◌++◌, replicate, drop, Option, Some, None, if◌then◌else◌, nat_eq}
use Rattle.std.specs.Cmp.Lexicographic.{pointwise}
use Rattle.byteorder.specs.Endian.{big_bytes, big_number}
use Rattle.xdr.specs.Item.{Item, fixed}

-- a file handle, by its bytes
abbrev pub FileHandle : Type 0
FileHandle = List ℕ

-- fhandle: 32 bytes
abbrev pub fhandle : Item
fhandle = fixed 32

-- the file handle of a file number
unfoldable pub handle_of : ℕ → ℕ → FileHandle
handle_of fsid number = big_bytes 4 fsid ++ (big_bytes 4 number ++ replicate 24 0)

-- the file number of a handle, if it is this node's
unfoldable pub number_in : ℕ → FileHandle → Option ℕ
number_in fsid handle =
    if pointwise nat_eq handle (handle_of fsid (big_number 4 (drop 4 handle)))
    then Some (big_number 4 (drop 4 handle))
    else None
