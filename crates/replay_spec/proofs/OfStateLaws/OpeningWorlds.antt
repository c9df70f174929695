-- The world that a server begins with is one that a server can have.
-- Serves: honest_states_are_spelled.
use Rattle.std.proofs.Common.{◌≡◌, ℕ, ◌<◌, ◌^◌, [], ◌∷◌, Bool, true, false, cond, Some, None, refl}
use Rattle.std.proofs.Common.{sym, subst, ◌∙◌, arith}
use Rattle.std.specs.List.{IsDistinct}
use Rattle.std.specs.Ordering.{nat_cmp, eq_by_cmp}
use Rattle.std.specs.Cmp.{nat_cmp_total}
use Rattle.std.specs.FinMap as finite
use Rattle.std.proofs.lemmas.Option.{same_Some}
use Rattle.server_spec.specs.nfs_spec.Opening.{first_file, opening_root, opening_hello}
use Rattle.server_spec.specs.nfs_laws.Sizes.Bounds.{HasWords}
use Rattle.server_spec.specs.World.{opening_world}
use Rattle.server_spec.specs.IsWorld.{IsWorld}
use Rattle.server_spec.proofs.nfs_spec.OpeningFiles.{opening_room}
use Rattle.server_spec.proofs.nfs_spec.OpeningTree.{opening_is_tree}

first_words : (mode : ℕ) (body : _) → HasWords (first_file mode body)
first_words mode body = record {
  uid = omega arith;
  gid = omega arith;
  atime = omega arith;
  mtime = omega arith;
  ctime = omega arith;
}

-- the root, or `hello`
of_two : (f : _) (a b : Bool) → cond a (Some opening_root) (cond b (Some opening_hello) None) ≡ Some f
    → HasWords f
of_two f true b is = subst HasWords (same_Some opening_root f is) (first_words _ _)
of_two f false true is = subst HasWords (same_Some opening_hello f is) (first_words _ _)
of_two f false false is = absurd cc

-- the world that a server begins with is one that it can have, where its number is of 32 bits
pub opening_is_world : (node : ℕ) → node < 2 ^ 32 → IsWorld node (opening_world node)
unfolding IsDistinct
opening_is_world node word =
    let files = finite.get-from_entries nat_cmp_total ((1, opening_root) ∷ (2, opening_hello) ∷ []) in
    record {
      fsid = refl;
      tree = opening_is_tree node;
      room = opening_room node;
      words =
          record {
            fsid = word;
            files = λ n f there.
                of_two f (eq_by_cmp nat_cmp n 1) (eq_by_cmp nat_cmp n 2) (sym (files n) ∙ there);
          };
      clock = omega arith;
      seconds = omega arith;
      mounts = record { count = omega arith; each = tt; differ = tt };
    }
