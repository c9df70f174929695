-- The machines of mounts have short names.
-- Serves: add_mounts.
use Rattle.std.proofs.Common.{ℕ, zero, suc, ◌<◌, ◌≤◌, List, [], ◌∷◌, map, length, get_or, arith}
use Rattle.std.specs.List.{AllByRecursion}
use Rattle.mount_types.specs.declared.limits.TheConstants.{MNTNAMLEN}
use Rattle.mount_types.specs.Mounts.{root_of, IsMount}

-- so at each place
pub short_at : {X : Type 0} (name : X → List ℕ) (xs : List X)
    → AllByRecursion IsMount (map (λ x. root_of (name x)) xs)
    → (i : ℕ) (d : X) → i < length xs → length (name (get_or xs i d)) ≤ MNTNAMLEN
short_at name [] all i d h = absurd (omega (arith, h))
short_at name (x ∷ xs) all zero d h = all.0.0
short_at name (x ∷ xs) all (suc i) d h = short_at name xs all.1 i d (omega (arith, h))
