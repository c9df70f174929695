-- Files of one shape are a tree where the others are.
-- Serves: trees_stay_trees (nfs_laws): SETATTR and WRITE.
use Rattle.std.proofs.Common.{◌≡◌, is_some, sym, ap, ◌∙◌, arith}
use Rattle.fs_spec.specs.Paths.{path_at}
use Rattle.fs_spec.specs.Files.{Files, directory_entries}
use Rattle.fs_spec.specs.Trees.{IsFileTree}
use Rattle.fs_spec.proofs.OfChanges.Shapes.{AllFiles, IsSameShape}
use Rattle.fs_spec.proofs.OfEditedTrees.Building.{built, facts}

-- files of one shape have the same entries
pub same_directory_entries : (w w' : Files) → IsSameShape w w' → directory_entries w' ≡ directory_entries w
same_directory_entries w w' a = λ i. λ n y. a.directory_entries n y i

-- files of the shape of a tree are a tree
pub stays_shaped : (w w' : Files) → IsFileTree w → IsSameShape w w' → AllFiles w' → IsFileTree w'
stays_shaped w w' tree a files = built w' (record {
  root_is = a.kinds 1 ∙ tree.tree.root;
  reached = λ n is. let r = tree.tree.reached n (sym (a.kinds n) ∙ is) in
      (r.0, r.1, ap (λ at. path_at at r.0) (same_directory_entries w w' a) ∙ r.2);
  there = λ n y k c h. ap is_some (a.kinds k)
      ∙ (facts w tree).there n y k c (sym (a.directory_entries n y) ∙ h);
  root = a.names 1 ∙ tree.root;
  directories = λ n not is. a.names n ∙ tree.directories n not (sym (a.kinds n) ∙ is);
  named = λ n not is. omega
      (arith, a.names n, (facts w tree).named n not (ap is_some (sym (a.kinds n)) ∙ is));
  numbers = λ n is. let was = (facts w tree).numbers n (ap is_some (sym (a.kinds n)) ∙ is) in
      (was.0, omega (arith, was, a.next));
  names = λ n name is. tree.names n name (ap is_some (sym (a.directory_entries n name)) ∙ is);
  files = files;
})
