-- What it takes that mounts are those of a server, part by part.
-- Serves: the rules of a state's text.
use Rattle.std.proofs.Common.{◌≡◌, ◌≢◌, ◌≤◌, Bool, true, false, ◌&&◌, List, [], ◌∷◌, length, AllPairs}
use Rattle.std.proofs.Common.{Decides, refl, ap, ◌∙◌, ℕ}
use Rattle.std.specs.List.{AllByRecursion}
use Rattle.std.specs.Str.{bytes_eq}
use Rattle.std.proofs.lemmas.Slice.Eq.{bytes_eq-Decides}
use Rattle.std.proofs.lemmas.Map.Made.{AllPairs-from_IsDistinct, IsDistinct-from_AllPairs}
use Rattle.mount_types.specs.declared.limits.TheConstants.{MNTNAMLEN}
use Rattle.mount_types.specs.Calls.{Mount}
use Rattle.mount_types.specs.Mounts.{Mounts, max_mounts, root_path, same_mount, IsMount, AreMounts}

both_true : (a b : Bool) → (a && b) ≡ true → (a ≡ true) × (b ≡ true)
both_true true b h = (refl, h)
both_true false b h = absurd (cc)

true_both : (a b : Bool) → a ≡ true → b ≡ true → (a && b) ≡ true
true_both true b h k = k
true_both false b h k = absurd (cc)

-- one mount is another exactly where host and directory are
same_decides : (a b : Mount) → Decides (same_mount a b) (a ≡ b)
same_decides a b = (there, back)
  where
    there : same_mount a b ≡ true → a ≡ b
    there same =
        let parts = both_true (bytes_eq a.0 b.0) (bytes_eq a.1 b.1) same in
        let host = (bytes_eq-Decides a.0 b.0).0 parts.0 in
        let directory = (bytes_eq-Decides a.1 b.1).0 parts.1 in
        ap (λ (h : List ℕ). (h, a.1)) host ∙ ap (λ (d : List ℕ). (b.0, d)) directory

    back : a ≡ b → same_mount a b ≡ true
    back is =
        true_both (bytes_eq a.0 b.0) (bytes_eq a.1 b.1)
        ((bytes_eq-Decides a.0 b.0).1 (ap (λ (m : Mount). m.0) is))
        ((bytes_eq-Decides a.1 b.1).1 (ap (λ (m : Mount). m.1) is))

directories_of : (mounts : Mounts) → AllByRecursion IsMount mounts
    → AllByRecursion (λ (m : Mount). m.1 ≡ root_path) mounts
directories_of [] all = tt
directories_of (m ∷ mounts) all = (all.0.1, directories_of mounts all.1)

each_of : (mounts : Mounts) → AllByRecursion (λ (m : Mount). length m.0 ≤ MNTNAMLEN) mounts
    → AllByRecursion (λ (m : Mount). m.1 ≡ root_path) mounts → AllByRecursion IsMount mounts
each_of [] short root = tt
each_of (m ∷ mounts) short root = ((short.0, root.0), each_of mounts short.1 root.1)

-- a server's mounts are of the root
pub are_of_the_root : (mounts : Mounts) → AreMounts mounts
    → AllByRecursion (λ (m : Mount). m.1 ≡ root_path) mounts
are_of_the_root mounts are = directories_of mounts are.each

-- and differ
pub are_different : (mounts : Mounts) → AreMounts mounts → AllPairs (λ (m n : Mount). m ≢ n) mounts
are_different mounts are = AllPairs-from_IsDistinct same_decides mounts are.differ

-- few mounts of the root with short names that differ are a server's
pub are_mounts : (mounts : Mounts) → length mounts ≤ max_mounts
    → AllByRecursion (λ (m : Mount). length m.0 ≤ MNTNAMLEN) mounts
    → AllByRecursion (λ (m : Mount). m.1 ≡ root_path) mounts → AllPairs (λ (m n : Mount). m ≢ n) mounts
    → AreMounts mounts
are_mounts mounts few short root differ = record {
  count = few;
  each = each_of mounts short root;
  differ = IsDistinct-from_AllPairs same_decides mounts differ;
}
