-- An inode that is edited in its place: what that says of its file.
-- Serves: `slots::set`, `slots::write`.
use Rattle.std.proofs.Common.{◌≡◌, ℕ, cond, List, Some, refl, sym, ap, subst, ◌∙◌}
use Rattle.std.specs.Prelude.{Result, Ok, Err, IfOk, OnOk, OnErr}
use Rattle.std.specs.Ordering.{nat_cmp, eq_by_cmp}
use Rattle.fs_spec.specs.Files.{File}
use Rattle.fs_spec.proofs.Walks.{some_same}
use Rattle.fs_spec.specs.Changes.Limits.{blocks_in}
use Rattle.nfs_count_laws.specs.nfs_laws.Sizes.Bounds.{HasWords}
use Rattle.tree_rules.specs.inodes.declared.inode.Inode.{Inode}
use Rattle.tree_rules.specs.inodes.Inodes.{body_in, fattr_of, file_in, inode_at, parent_in, stored_at}
use Rattle.inode_table.specs.declared.edits.slots.Edited.{Edited}
use Rattle.inode_table.specs.Edits.Slots.{AreAlike, ChangesFile, IsBlockChange}
use Rattle.inode_table.proofs.OfEdits.EditedInodes.{alike, changes_file, here, its_file}

module _ (old new : List (ℕ × Inode)) (fsid number : ℕ) (change : File → File) where
  -- what an edit of a number's file tells, where it isn't refused memory
  pub record Edits {E : Type 0} (result : Result Edited E) : Type 0 where
    -- the file changes, and what is kept beside it stays
    pub ok : OnOk result (ChangesFile number change old new)
    -- its blocks before and after are told
    pub blocks : IfOk result (λ edited. IsBlockChange number edited.before edited.after old new)
    -- the attributes that are told are those of its inode afterwards
    pub attributes : IfOk result (λ edited. (inode : Inode) → inode_at new number ≡ Some inode
        → edited.attributes ≡ fattr_of fsid number inode)
    -- its owner, group and seconds are words afterwards
    pub words : OnOk result ((f : File) → stored_at new number ≡ Some f → HasWords f)
    -- nothing changes where it fails
    pub err : OnErr result (AreAlike old new)

  -- by what it tells of the inode
  pub edited : {E : Type 0} → (i i' : Inode) → inode_at old number ≡ Some i
      → ((n : ℕ) → inode_at new n ≡ cond (eq_by_cmp nat_cmp number n) (Some i') (inode_at old n))
      → i'.nlink ≡ i.nlink → parent_in i'.body ≡ parent_in i.body
      → (result : Result Edited E)
      → OnOk result (file_in i' ≡ change (file_in i))
      → IfOk result (λ edited. (edited.before ≡ blocks_in (body_in i.body))
      × (edited.after ≡ blocks_in (body_in i'.body)))
      → IfOk result (λ edited. edited.attributes ≡ fattr_of fsid number i')
      → OnOk result (HasWords (file_in i'))
      → OnErr result (file_in i' ≡ file_in i)
      → Edits result
  edited i i' there at nlink parent (Ok e) file blocks attributes words err =
      let after = here old new number (Some i') at in record {
        ok = changes_file old new number (Some i') at i i' there refl change file nlink parent;
        blocks = record {
          before = λ f own. blocks.0
              ∙ ap (λ (g : File). blocks_in g.body) (its_file old number i f there own);
          after = λ f own. blocks.1
              ∙ ap (λ (g : File). blocks_in g.body) (its_file new number i' f after own);
        };
        attributes = λ inode own. attributes ∙ ap (fattr_of fsid number) (some_same (sym after ∙ own));
        words = λ f own. subst HasWords (its_file new number i' f after own) words;
        err = tt;
      }
  edited i i' there at nlink parent (Err e) file blocks attributes words err = record {
    ok = tt;
    blocks = tt;
    attributes = tt;
    words = tt;
    err = alike old new number (Some i') at i i' there refl err nlink parent;
  }
