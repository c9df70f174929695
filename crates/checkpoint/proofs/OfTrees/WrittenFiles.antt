-- Inodes of a tree written after their count are its files.
-- Serves: `add_tree`, `add_tree_digests`.
use Rattle.std.proofs.Common.{◌≡◌, ℕ, ◌≤◌, List, [], ◌∷◌, ◌++◌, map, length, Result, refl, ap, subst, ◌∙◌}
use Rattle.std.proofs.Common.{arith}
use Rattle.std.specs.Prelude.{OnOk}
use Rattle.xdr.specs.Item.{Item, Value, Fits, array, spelling, number_spelling}
use Rattle.xdr.specs.Writing.{Adds}
use Rattle.nfs_laws.specs.fs_spec.Maxima.{max_files}
use Rattle.nfs_laws.specs.fs_spec.Files.{File}
use Rattle.inodes.specs.Inodes as stored
use Rattle.inodes.specs.declared.inode.Inode.{Inode}
use Rattle.file_tree.specs.tree_rules.Listed.{files_in}
use Rattle.file_tree.proofs.WritableFiles.{as_many}
use Rattle.state_machine.proofs.file_texts.Arrays.{EachFits, texts, adds_counted, fits_counted}

module _ (a : Item) (said : ℕ × File → Value a) (inodes : List (ℕ × Inode)) (es : List (ℕ × File))
    (same : files_in inodes ≡ es) where
  abbrev value : ℕ × Inode → Value a
  value e = said (e.0, stored.file_in e.1)

  -- what inodes say is what their files say
  each_said : (xs : List (ℕ × Inode)) → map value xs ≡ map said (files_in xs)
  each_said [] = refl
  each_said (x ∷ xs) = ap (λ vs. value x ∷ vs) (each_said xs)

  -- and so what the files of the tree say
  all_said : map value inodes ≡ map said es
  all_said = each_said inodes ∙ ap (map said) same

  -- what is said of all files has a spelling
  pub files_fit : {E : Type 0} (r : Result (Unit {0}) E) → length es ≤ max_files
      → OnOk r (EachFits a value inodes) → OnOk r (Fits (array max_files a) (map said es))
  files_fit r few each =
      subst (λ vs. OnOk r (Fits (array max_files a) vs)) all_said
      (fits_counted a value max_files inodes r (omega arith) (omega (arith, few, as_many inodes es same))
      each)

  -- their texts after their count are the spelling
  pub files_added : {E : Type 0} (old first new : List ℕ) (r : Result (Unit {0}) E)
      → first ≡ old ++ number_spelling 4 (length inodes) → Adds (texts a value inodes) first r new
      → Adds (spelling (array max_files a) (map said es)) old r new
  files_added old first new r count added =
      subst (λ vs. Adds (spelling (array max_files a) vs) old r new) all_said
      (adds_counted a value max_files inodes old first new r count added)
