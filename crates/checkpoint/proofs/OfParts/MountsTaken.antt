-- A list of mounts that is taken part by part: each is of the root and not among those before it, or all of
-- them aren't a server's.
-- Serves: mounts_of.
use Rattle.std.proofs.Common.{◌≡◌, ℕ, ◌<◌, Bool, true, false, not, ◌&&◌, List, [], ◌∷◌, ◌++◌, length, take}
use Rattle.std.proofs.Common.{get_or, refl, sym, ap, subst, ◌∙◌, arith}
use Rattle.std.specs.Prelude.{nat_lt, if◌then◌else◌}
use Rattle.std.specs.Str.{bytes_eq}
use Rattle.std.proofs.Math.Bool.{and-true}
use Rattle.std.proofs.lemmas.Bool.{and_parts, lt-ltb}
use Rattle.std.proofs.lemmas.List.{get_or-map, get_or-take, get_or_default, length-map, length-take-le}
use Rattle.std.proofs.lemmas.List.{take-map}
use Rattle.std.proofs.lemmas.List.Elements.{All-from_recursion, All-get_or}
use Rattle.std.proofs.lemmas.List.Folds.{Any-from_list_any}
use Rattle.std.proofs.lemmas.Slice.Eq.{bytes_eq-Decides}
use Rattle.mount_types.specs.Calls.{Mount}
use Rattle.mount_types.specs.Mounts.{Mounts, max_mounts, root_path, root_of, same_mount, is_listed, may_list}
use Rattle.state_spec.specs.Rules.{MountsAreOfTheRoot, MountsDiffer}
use Rattle.checkpoint.specs.declared.parts.parts.MountPart.{MountPart}
use Rattle.checkpoint.specs.Parts.Taking.{may_take}
use Rattle.checkpoint.specs.Parts.SaidParts.{mount_said, mounts_given}

-- mounts that are one are equal
same_is : (m n : Mount) → same_mount m n ≡ true → m ≡ n
same_is m n same =
    let parts = and_parts (bytes_eq m.0 n.0) (bytes_eq m.1 n.1) same in
    let hosts = (bytes_eq-Decides m.0 n.0).0 parts.0 in
    let directories = (bytes_eq-Decides m.1 n.1).0 parts.1 in
    λ i. (hosts i, directories i)

-- a mount of the root is a machine's
root_alike : (m : Mount) → bytes_eq m.1 root_path ≡ true → root_of m.0 ≡ m
root_alike m root =
    let same = (bytes_eq-Decides m.1 root_path).0 root in
    λ i. (m.0, sym same i)

-- it is taken exactly where the machine may be listed, while there is room
pub listed_alike : (mounts : Mounts) (m : Mount) → bytes_eq m.1 root_path ≡ true → length mounts < max_mounts
    → may_list mounts (root_of m.0) ≡ may_take mounts m
listed_alike mounts m root room =
    let few : nat_lt (length mounts) max_mounts ≡ true = lt-ltb _ _ room in
    let alike : not (is_listed mounts (root_of m.0)) ≡ not (is_listed mounts m) =
    ap (λ (n : Mount). not (is_listed mounts n)) (root_alike m root) in
    ap (λ b. not (is_listed mounts (root_of m.0)) && b) few
    ∙ and-true (not (is_listed mounts (root_of m.0))) ∙ alike
    ∙ ap (λ b. b && not (is_listed mounts m)) (sym root)

-- and what is listed after the others is it
pub put_alike : (mounts : Mounts) (m : Mount) → bytes_eq m.1 root_path ≡ true → length mounts < max_mounts
    → (if may_list mounts (root_of m.0) then mounts ++ root_of m.0 ∷ [] else mounts)
    ≡ (if may_take mounts m then mounts ++ m ∷ [] else mounts)
put_alike mounts m root room =
    ap (λ b. if b then mounts ++ root_of m.0 ∷ [] else mounts) (listed_alike mounts m root room)
    ∙ ap (λ (n : Mount). if may_take mounts m then mounts ++ n ∷ [] else mounts) (root_alike m root)

-- what isn't new is listed
is_there : (listed : Bool) → not listed ≡ false → listed ≡ true
is_there true h = refl
is_there false h = absurd (cc)

-- where a mount is one of those before its place, mounts don't differ
not_twice : (mounts : Mounts) (at : ℕ) (m : Mount) → at < length mounts → get_or mounts at m ≡ m
    → is_listed (take at mounts) m ≡ true → MountsDiffer mounts → ⊥
not_twice mounts at m within here listed differ =
    let one = Any-from_list_any (same_mount m) (take at mounts) listed in
    let shorter = length-take-le at mounts (omega (arith, within)) in
    let before : one.0 < at = omega (arith, one.2, shorter) in
    let found = one.1 in
    let stands : get_or mounts one.0 m ≡ found =
    sym (get_or-take at mounts one.0 m before)
    ∙ get_or_default (take at mounts) one.0 m found one.2 ∙ one.3 in
    differ one.0 at m before within (stands ∙ sym (same_is m found one.4) ∙ sym here)

-- a mount that isn't taken is of another directory than the root, or one of those before its place
not_taken : (mounts : Mounts) (at : ℕ) (m : Mount) → at < length mounts → get_or mounts at m ≡ m
    → may_take (take at mounts) m ≡ false → MountsAreOfTheRoot mounts → MountsDiffer mounts → ⊥
not_taken mounts at m within here refused root differ =
    let each = All-from_recursion (λ (n : Mount). n.1 ≡ root_path) mounts root in
    let is_root : m.1 ≡ root_path =
    ap (λ (n : Mount). n.1) (sym here)
    ∙ All-get_or (λ (n : Mount). n.1 ≡ root_path) mounts at m within each in
    let same : bytes_eq m.1 root_path ≡ true = (bytes_eq-Decides m.1 root_path).1 is_root in
    let listed =
    is_there (is_listed (take at mounts) m)
    (ap (λ b. b && not (is_listed (take at mounts) m)) (sym same) ∙ refused) in
    not_twice mounts at m within here listed differ

module _ (parts : List MountPart) (at : ℕ) (d : MountPart) (within : at < length parts)
    (mounts : Mounts) (so_far : mounts ≡ mounts_given (take at parts)) where
  -- the mount of this place
  abbrev here : Mount
  here = mount_said (get_or parts at d)

  place : at < length (mounts_given parts)
  place = let same = length-map parts mount_said in omega (arith, within, same)

  -- a part that isn't taken
  pub refused_one : may_take mounts here ≡ false
      → MountsAreOfTheRoot (mounts_given parts) × MountsDiffer (mounts_given parts) → ⊥
  refused_one refused rules =
      let front : mounts ≡ take at (mounts_given parts) = so_far ∙ sym (take-map mount_said at parts) in
      not_taken (mounts_given parts) at here place (get_or-map mount_said parts at d here within)
      (subst (λ (ms : Mounts). may_take ms here ≡ false) front refused) rules.0 rules.1
