-- A path of slashes alone is the root's; another has a name on it, or begins with no slash.
-- Serves: `is_root`, `is_there`.
use Rattle.std.proofs.Common.{◌≡◌, ℕ, ◌<◌, ◌==◌, Bool, true, false, cond, ◌&&◌, List, [], ◌∷◌, length, Some}
use Rattle.std.proofs.Common.{None, refl, arith}
use Rattle.std.specs.Prelude.{nat_lt, if◌then◌else◌}
use Rattle.std.specs.Option.{is_some}
use Rattle.std.specs.List.{filter, list_all, slice_split, onto_first}
use Rattle.std.proofs.lemmas.Bool.{lt-ltb}
use Rattle.mount_types.specs.nfs_items.Terms.{Name}
use Rattle.file_tree.specs.fs_spec.Paths.{DirectoryEntries, path_at}
use Rattle.server_spec.specs.Paths.{slash, names_between, names_on}
use Rattle.server_spec.specs.Walks.{is_root, is_there}

-- a byte other than a slash is on a name
named : (byte : ℕ) (parts : List Name)
    → is_root (Some (filter (λ name. nat_lt 0 (length name)) (onto_first byte parts))) ≡ false
named byte [] = refl
named byte (part ∷ parts) =
    let some : nat_lt 0 (length (byte ∷ part)) ≡ true = lt-ltb _ _ (omega arith) in rw some refl

-- nothing is named exactly between slashes alone
pub slashes_name_none : (bytes : List ℕ)
    → is_root (Some (names_between bytes)) ≡ list_all (λ byte. byte == slash) bytes
slashes_name_none [] = refl
slashes_name_none (byte ∷ rest) = chosen (byte == slash) (slashes_name_none rest)
  where
    chosen : (b : Bool) → is_root (Some (names_between rest)) ≡ list_all (λ byte. byte == slash) rest
        → is_root (Some (filter (λ name. nat_lt 0 (length name))
        (cond b ([] ∷ slice_split (λ byte. byte == slash) rest)
        (onto_first byte (slice_split (λ byte. byte == slash) rest)))))
        ≡ (b && list_all (λ byte. byte == slash) rest)
    chosen true same = same
    chosen false same = named byte (slice_split (λ byte. byte == slash) rest)

-- the root's paths are slashes alone
pub slashes_are_root : (path : List ℕ) → 0 < length path
    → is_root (names_on path) ≡ list_all (λ byte. byte == slash) path
slashes_are_root [] more = absurd (omega arith)
slashes_are_root (byte ∷ rest) more = chosen (byte == slash)
  where
    chosen : (b : Bool) → is_root (if b then Some (names_between rest) else None)
        ≡ (b && list_all (λ byte. byte == slash) rest)
    chosen true = slashes_name_none rest
    chosen false = refl

-- the empty path isn't
pub empty_is_no_root : (path : List ℕ) → length path ≡ 0 → is_root (names_on path) ≡ false
empty_is_no_root [] none = refl
empty_is_no_root (byte ∷ rest) none = absurd (omega arith)

-- nor does it lead anywhere
pub empty_leads_nowhere : (at : DirectoryEntries) (path : List ℕ) → length path ≡ 0
    → is_there at (names_on path) ≡ false
empty_leads_nowhere at [] none = refl
empty_leads_nowhere at (byte ∷ rest) none = absurd (omega arith)

-- a path leads where the names after its slash do
pub leads_as_names : (at : DirectoryEntries) (path : List ℕ) (byte : ℕ) (rest : List ℕ) → path ≡ byte ∷ rest
    → is_there at (names_on path) ≡ ((byte == slash) && is_some (path_at at (names_between rest)))
leads_as_names at path byte rest is = rw is (chosen (byte == slash))
  where
    chosen : (b : Bool) → is_there at (if b then Some (names_between rest) else None)
        ≡ (b && is_some (path_at at (names_between rest)))
    chosen true = refl
    chosen false = refl
