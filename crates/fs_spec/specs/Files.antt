-- The files of a server, as its callers see them: a map from numbers to files. The map from paths is read off
-- it by walks. Kind, nlink, size, blocks, fsid and fileid are told by these, so that one world has one text.
use Rattle.std.specs.Prelude.{◌≡◌, ℕ, ◌==◌, Bool, true, false, List, [], sum_by, find, nat_lt, Option, Some}
use Rattle.std.specs.Prelude.{option_map, option_and_then, if◌then◌else◌, refl}
use Rattle.std.specs.Option.{option_map_or}
use Rattle.std.specs.Ordering.{nat_cmp}
use Rattle.std.specs.FinMap as finite
use Rattle.std.specs.Coded.{Coded, code_by, coded×, coded⊎, coded_ℕ, coded_list}
use Rattle.std.proofs.Common.{inl, inr, ◌⊎◌}
use Rattle.nfs_items.specs.Timeval.{Timeval, timeval_code}
use Rattle.nfs_items.specs.Terms.{Name, FileNumber}
use Rattle.fs_spec.specs.Listing.{DirectoryEntry, NamedEntry, Listing, entry_number, entry_at}

-- what a file holds: bytes, a target, or the names of a directory
pub data Body : Type 0 where
  Regular : List ℕ → Body
  Symlink : List ℕ → Body
  Directory : Listing → Body

-- a file: the twelve kept bits of its mode, its owner, its group, its times, and what it holds
pub record File : Type 0 where
  pub mode : ℕ
  pub uid : ℕ
  pub gid : ℕ
  pub atime : Timeval
  pub mtime : Timeval
  pub ctime : Timeval
  pub body : Body

-- the node's number, the next file number, and the files by their numbers
pub record Files : Type 0 where
  pub fsid : ℕ
  pub next : FileNumber
  pub files : finite.FinMap nat_cmp File

-- ---- codes, by which a proof tells values apart

-- a body as a sum of values that have codes
abbrev pub BodyParts : Type 0
BodyParts = List ℕ ⊎ (List ℕ ⊎ (ℕ × List NamedEntry))

-- the parts of a body
abbrev pub body_parts : Body → BodyParts
body_parts (Regular bytes) = inl bytes
body_parts (Symlink target) = inr (inl target)
body_parts (Directory l) = inr (inr (l.next, l.entries))

-- the body of its parts
abbrev pub body_from : BodyParts → Body
body_from (inl bytes) = Regular bytes
body_from (inr (inl target)) = Symlink target
body_from (inr (inr p)) = Directory (record { next = p.0; entries = p.1 })

-- a body comes back from its parts
pub body_back : (b : Body) → body_from (body_parts b) ≡ b
body_back (Regular bytes) = refl
body_back (Symlink target) = refl
body_back (Directory l) = refl

-- bodies are told apart by their parts
abbrev pub body_code : Coded Body
body_code =
    code_by BodyParts
    (coded⊎ (coded_list coded_ℕ) (coded⊎ (coded_list coded_ℕ)
    (coded× coded_ℕ (coded_list (coded× (coded_list coded_ℕ) (coded× coded_ℕ coded_ℕ))))))
    body_parts body_from body_back

-- files are told apart by their fields
abbrev pub file_code : Coded File
file_code =
    code_by (ℕ × (ℕ × (ℕ × (Timeval × (Timeval × (Timeval × Body))))))
    (coded× coded_ℕ (coded× coded_ℕ (coded× coded_ℕ
    (coded× timeval_code (coded× timeval_code (coded× timeval_code body_code))))))
    (λ f. (f.mode, (f.uid, (f.gid, (f.atime, (f.mtime, (f.ctime, f.body)))))))
    (λ p. record {
      mode = p.0;
      uid = p.1.0;
      gid = p.1.1.0;
      atime = p.1.1.1.0;
      mtime = p.1.1.1.1.0;
      ctime = p.1.1.1.1.1.0;
      body = p.1.1.1.1.1.1;
    })
    (λ _. refl)

-- a server's files are told apart by the node's number, the next number, and the map
abbrev pub files_code : Coded Files
files_code =
    code_by (ℕ × (ℕ × finite.FinMap nat_cmp File))
    (coded× coded_ℕ (coded× coded_ℕ (finite.code coded_ℕ file_code)))
    (λ fs. (fs.fsid, (fs.next, fs.files)))
    (λ p. record { fsid = p.0; next = p.1.0; files = p.1.1 }) (λ _. refl)

-- ---- what is read off the files

-- the file of a number
abbrev pub file_at : Files → FileNumber → Option File
file_at fs n = finite.get fs.files n

-- what a body lists: only a directory lists names
abbrev pub listing_in : Body → Listing
listing_in (Regular bytes) = record { next = 0; entries = [] }
listing_in (Symlink target) = record { next = 0; entries = [] }
listing_in (Directory l) = l

-- whether a body is a directory's
abbrev pub is_directory : Body → Bool
is_directory (Regular bytes) = false
is_directory (Symlink target) = false
is_directory (Directory l) = true

-- what the directory of a number lists; where there is none, nothing
abbrev pub listing : Files → FileNumber → Listing
listing fs n = option_map_or (λ f. listing_in f.body) (file_at fs n) (record { next = 0; entries = [] })

-- a number is a directory's
abbrev pub IsDirectory : Files → FileNumber → Type 0
IsDirectory fs n = option_map (λ f. is_directory f.body) (file_at fs n) ≡ Some true

-- what the directory of each number has under each name
abbrev pub directory_entries : Files → FileNumber → Name → Option DirectoryEntry
directory_entries fs n name = option_and_then (λ f. entry_at (listing_in f.body) name) (file_at fs n)

-- 1 where an entry names the number, else 0
abbrev pub one_if : FileNumber → NamedEntry → ℕ
one_if n entry = if entry_number entry == n then 1 else 0

-- how many names a file lists for a number
abbrev pub names_in : FileNumber → File → ℕ
names_in n f = sum_by (one_if n) (listing_in f.body).entries

-- how many names a number has in all directories
abbrev pub names_of : Files → FileNumber → ℕ
names_of fs n = sum_by (names_in n) (finite.values fs.files)

-- the number of the directory that names a directory; the root's is the root
abbrev pub parent_of : Files → FileNumber → FileNumber
parent_of fs n =
    if n == 1 then 1
    else option_map_or (λ e. e.0) (find (λ e. nat_lt 0 (names_in n e.1)) (finite.entries fs.files)) 1

-- a body without the names that it lists
abbrev pub body_without_entries : Body → Body
body_without_entries (Regular bytes) = Regular bytes
body_without_entries (Symlink target) = Symlink target
body_without_entries (Directory l) = Directory (record { next = l.next; entries = [] })

-- a file without the names that it lists; all else stays
abbrev pub without_entries : File → File
without_entries f = record f { body = body_without_entries f.body }
