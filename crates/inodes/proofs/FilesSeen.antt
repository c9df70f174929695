-- The file of a number, told by the inode of that number.
-- Serves: all that speaks of inodes as files.
use Rattle.std.proofs.Common.{◌≡◌, ℕ, true, false, cond, List, [], ◌∷◌, map, Some, option_map, refl, ◌∙◌}
use Rattle.std.specs.Ordering.{nat_cmp}
use Rattle.std.specs.Cmp.{nat_cmp_total}
use Rattle.std.specs.BTreeMap.{is_at}
use Rattle.std.specs.FinMap as finite
use Rattle.nfs_spec.specs.fs_spec.Files.{file_at}
use Rattle.inodes.specs.declared.inode.Inode.{Inode}
use Rattle.inodes.specs.Inodes.{file_in, inode_at, files_of}

find_seen : (es : List (ℕ × Inode)) (n : ℕ)
    → finite.find nat_cmp n (map (λ (e : ℕ × Inode). (e.0, file_in e.1)) es)
    ≡ option_map file_in (inode_at es n)
find_seen [] n = refl
find_seen (e ∷ es) n =
    elim (is_at (nat_cmp n) e.0) as (λ b. cond b (Some (file_in e.1))
    (finite.find nat_cmp n (map (λ (e : ℕ × Inode). (e.0, file_in e.1)) es))
    ≡ option_map file_in (cond b (Some e.1) (inode_at es n))) [
      | true ↦ refl
      | false ↦ find_seen es n
    ]

-- the file of a number is what its inode is
pub file_seen : (fsid next : ℕ) (inodes : List (ℕ × Inode)) (n : ℕ)
    → file_at (files_of fsid next inodes) n ≡ option_map file_in (inode_at inodes n)
file_seen fsid next inodes n = finite.get-from_entries nat_cmp_total _ n ∙ find_seen inodes n
