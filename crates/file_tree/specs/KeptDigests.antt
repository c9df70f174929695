-- Digests of the texts of files, kept beside the files.
use Rattle.std.specs.Prelude.{◌≡◌, ◌≢◌, ℕ, Bool, false, List, map, Option, Some, None, is_none, is_some, refl}
use Rattle.std.specs.Prelude.{◌&&◌, ◌||◌, count_by}
use Rattle.std.specs.List.{filter, list_any}
use Rattle.std.specs.Ordering.{eq_by_cmp, nat_cmp}
use Rattle.std.specs.BTreeMap.{get}
use Rattle.std.specs.Coded.{Coded, code_by, coded×, coded_list, coded_ℕ}
use Rattle.std.specs.FinMap as finite
use Rattle.nfs_spec.specs.nfs_items.Terms.{FileNumber}
use Rattle.nfs_spec.specs.fs_spec.Files.{File, Files, file_at, files_code}
use Rattle.inode_table.specs.inodes.Inodes.{file_in}
use Rattle.inode_table.specs.inodes.declared.inode.Inode.{Inode}
use Rattle.file_texts.specs.Bounds.{IsWritable}
use Rattle.file_texts.specs.server_spec.FileItems.{file_digest}
use Rattle.file_tree.specs.declared.digests.FileDigests.{FileDigests}

-- the digest that is kept for a number, if one is
abbrev pub kept_at : FileDigests → FileNumber → Option (List ℕ)
kept_at digests n = get nat_cmp digests.by_number n

-- a digest is that of the text of a number's file, which is there
abbrev pub IsDigestAt : Files → FileNumber → List ℕ → Type 0
IsDigestAt fs n digest = (f : File) × (file_at fs n ≡ Some f) × (digest ≡ file_digest (n, f))

-- each digest that is kept is that of its file's text
abbrev pub AreKept : FileDigests → Files → Type 0
AreKept digests fs = (n : FileNumber) (digest : List ℕ) → kept_at digests n ≡ Some digest
    → IsDigestAt fs n digest

-- the digest of a number is dropped, and no other
pub record Forgets (number : FileNumber) (old new : FileDigests) : Type 0 where
  pub gone : kept_at new number ≡ None
  pub others : (n : FileNumber) → n ≢ number → kept_at new n ≡ kept_at old n

-- a file has none
abbrev pub has_none : FileDigests → FileNumber × File → Bool
has_none digests e = is_none (kept_at digests e.0)

-- how many files have none
abbrev pub count_missing : FileDigests → List (FileNumber × File) → ℕ
count_missing digests es = count_by (has_none digests) es

-- the numbers of the files that have none, which rise
abbrev pub missing_in : FileDigests → Files → List FileNumber
missing_in digests fs = map (λ (e : FileNumber × File). e.0)
    (filter (has_none digests) (finite.entries fs.files))

-- files, and the numbers of those whose digest isn't kept
pub record KeptFiles : Type 0 where
  pub files : Files
  pub missing : List FileNumber

-- they are told apart by both
abbrev pub kept_files_code : Coded KeptFiles
kept_files_code =
    code_by (Files × List FileNumber) (coded× files_code (coded_list coded_ℕ)) (λ k. (k.files, k.missing))
    (λ p. record { files = p.0; missing = p.1 }) (λ _. refl)

-- a number's file has no digest that is kept
abbrev pub is_missing : KeptFiles → FileNumber → Bool
is_missing k n = list_any (eq_by_cmp nat_cmp n) k.missing

-- no file has one
abbrev pub AreAllMissing : KeptFiles → Type 0
AreAllMissing k = (n : FileNumber) → is_missing k n ≡ is_some (file_at k.files n)

-- all that is kept stays kept
abbrev pub KeepsAll : KeptFiles → KeptFiles → Type 0
KeepsAll old new = (n : FileNumber) → is_missing old n ≡ false → is_missing new n ≡ false

-- Afterwards a file has no kept digest exactly where it is one of these, or was there before and had none.
abbrev pub DropsOnly : List FileNumber → KeptFiles → KeptFiles → Type 0
DropsOnly changed old new = (n : FileNumber) → is_missing new n
    ≡ (is_some (file_at new.files n) && (list_any (eq_by_cmp nat_cmp n) changed || is_missing old n))

-- an inode is that of a number's file, and a text can hold it
abbrev pub IsWritableAt : Files → FileNumber × Inode → Type 0
IsWritableAt fs e = (file_at fs e.0 ≡ Some (file_in e.1)) × IsWritable (file_in e.1).body
