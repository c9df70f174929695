-- What a directory lists, in order of insertion.
use Rattle.std.specs.Prelude.{◌≤◌, ◌+◌, List, [], ◌∷◌, ◌++◌, Option, nat_eq}
use Rattle.std.specs.Cmp.Lexicographic.{pointwise}
use Rattle.std.specs.Map.{lookup, remove_entry, keys_of}
use Rattle.std.specs.List.{IsDistinct}
use Rattle.nfs_items.specs.Terms.{FileNumber, Name, Cookie}

-- The number of a file is given once; each directory gives a cookie once, and they rise.

-- what a directory has under a name: the number of a file, and the entry's cookie
abbrev pub DirectoryEntry : Type 0
DirectoryEntry = FileNumber × Cookie

-- the number of the file that an entry is of
abbrev pub file_number : DirectoryEntry → FileNumber
file_number p = p.0

-- an entry with its name, as a directory lists it (RFC 1094, section 2.2.17, entry)
abbrev pub NamedEntry : Type 0
NamedEntry = Name × DirectoryEntry

-- the name of an entry
abbrev pub entry_name : NamedEntry → Name
entry_name e = e.0

-- the number of the file that it is of
abbrev pub entry_number : NamedEntry → FileNumber
entry_number e = e.1.0

-- its cookie, by which READDIR goes on after it (RFC 1094, section 2.2.17)
abbrev pub entry_cookie : NamedEntry → Cookie
entry_cookie e = e.1.1

-- the next cookie, and the entries
pub record Listing : Type 0 where
  pub next : Cookie
  pub entries : List NamedEntry

-- the entry of a name
abbrev pub entry_at : Listing → Name → Option DirectoryEntry
entry_at l name = lookup (pointwise nat_eq name) l.entries

-- the entry of a name less; the next cookie stays
abbrev pub without_entry : Listing → Name → Listing
without_entry l name = record { next = l.next; entries = remove_entry (pointwise nat_eq name) l.entries }

-- an entry comes last, with the next cookie
abbrev pub with_entry : Listing → Name → FileNumber → Listing
with_entry l name number = record {
  next = l.next + 1;
  entries = remove_entry (pointwise nat_eq name) l.entries ++ (name, (number, l.next)) ∷ [];
}

-- the cookies rise, from the first number to below the last
abbrev pub IsRising : Cookie → List NamedEntry → Cookie → Type 0
IsRising low [] high = low ≤ high
IsRising low (e ∷ es) high = (low ≤ entry_cookie e) × IsRising (entry_cookie e + 1) es high

-- no two entries have one name
abbrev pub HasDistinctNames : List NamedEntry → Type 0
HasDistinctNames entries = IsDistinct (pointwise nat_eq) (keys_of entries)
