-- The protocol's terms as types of their own (RFC 1094, sections 2.2 and 2.3).
use Rattle.std.specs.Prelude.{ℕ, List}

-- the number of a file, which fattr calls fileid
abbrev pub FileNumber : Type 0
FileNumber = ℕ

-- a name in a directory (section 2.3.7, filename), by its bytes
abbrev pub Name : Type 0
Name = List ℕ

-- where a READDIR goes on (section 2.2.17, nfscookie)
abbrev pub Cookie : Type 0
Cookie = ℕ

-- what a symbolic link holds (section 2.3.8, path), by its bytes
abbrev pub LinkTarget : Type 0
LinkTarget = List ℕ
