-- The way up from a directory, one step at a time.
-- Serves: `is_above`.
use Rattle.std.proofs.Common.{◌≡◌, ◌≢◌, ⊎_elim, ℕ, zero, suc, true, false, refl, sym, ap, subst, ◌∙◌, eqb}
use Rattle.std.proofs.Common.{eq-eqb, ne_eqb}
use Rattle.std.proofs.lemmas.Bool.{or_left}
use Rattle.std.specs.Prelude.{◌||◌}
use Rattle.nfs_spec.specs.fs_spec.Paths.{path_at}
use Rattle.nfs_spec.specs.fs_spec.Files.{Files, IsDirectory, directory_entries, parent_of}
use Rattle.nfs_spec.specs.fs_spec.Trees.{IsFileTree}
use Rattle.nfs_spec.proofs.fs_spec.Walks.{one_number, last_name, last_step}
use Rattle.nfs_spec.proofs.fs_spec.Parents.{root_parent}
use Rattle.nfs_spec.specs.Procedures.{climbs_to}

module _ (w : Files) (upper : ℕ) where
  -- a number is its own
  pub climbs_here : (k n : ℕ) → n ≡ upper → climbs_to k w upper n ≡ true
  climbs_here zero n is = eq-eqb upper n (sym is)
  climbs_here (suc k) n is = or_left (eqb upper n) (climbs_to k w upper (parent_of w n))
      (eq-eqb upper n (sym is))

  -- a step up from what isn't it
  pub climbs_on : (k n : ℕ) → n ≢ upper → climbs_to (suc k) w upper n ≡ climbs_to k w upper (parent_of w n)
  climbs_on k n not = ap (λ b. b || climbs_to k w upper (parent_of w n)) (ne_eqb upper n (λ e. not (sym e)))

  -- nothing but the root is above the root
  pub none_above_root : (k : ℕ) → 1 ≢ upper → climbs_to k w upper 1 ≡ false
  none_above_root zero not = ne_eqb upper 1 (λ e. not (sym e))
  none_above_root (suc k) not = climbs_on k 1 not ∙ ap (climbs_to k w upper) (root_parent w 1 refl)
      ∙ none_above_root k not

-- what is above a directory is one
pub parent_is_directory : (w : Files) → IsFileTree w → (n : ℕ) → IsDirectory w n
    → IsDirectory w (parent_of w n)
parent_is_directory w tree n is =
    let r = tree.tree.reached n is in
    ⊎_elim
    (λ e. subst (IsDirectory w)
    (sym (root_parent w n (one_number n r.1 1 0
    (sym r.2 ∙ ap (path_at (directory_entries w)) e)))) tree.tree.root)
    (λ l.
    let s = last_step (directory_entries w) (1, 0) l.0 l.1 n r.1
    (sym (ap (path_at (directory_entries w)) l.2) ∙ r.2) in
    subst (IsDirectory w) (sym (tree.tree.up s.0 l.1 n r.1 s.3 is)) (tree.tree.lists s.0 l.1 n r.1 s.3))
    (last_name r.0)
