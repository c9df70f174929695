-- What the definitions say of a file by its number, told by the inode that the table has for it.
-- Serves: `Tree::attributes`, `Tree::lookup`, `Tree::write`.
use Rattle.std.proofs.Common.{Bor, ◌≡◌, ℕ, List, Some, None, Ok, Err, option_map, if◌then◌else◌, refl, sym}
use Rattle.std.proofs.Common.{ap, ◌∙◌}
use Rattle.std.specs.Prelude.{Option, Result}
use Rattle.nfs_spec.specs.nfs_items.Caller.{Caller}
use Rattle.nfs_spec.specs.nfs_items.declared.attributes.Fattr.{Fattr}
use Rattle.nfs_spec.specs.nfs_items.declared.stat.Stat.{Stat}
use Rattle.nfs_spec.specs.nfs_items.declared.stat.Stat.TheVariants as stats
use Rattle.nfs_spec.specs.fs_spec.Files.{File, Files, file_at, parent_of}
use Rattle.nfs_spec.specs.ProcedureChecks.{◌>>=◌, ok_or, listing_or, may_search}
use Rattle.nfs_spec.specs.FileAttributes.{attributes_of}
use Rattle.nfs_spec.specs.Changes.{Effect}
use Rattle.file_tree.specs.Performs.{DoesAt}
use Rattle.nfs_spec.specs.Effects.{attributes_at, number_named, number_at_name, number_in_listing}
use Rattle.inode_table.specs.inodes.Inodes.{body_in, file_in, parent_in, KeepsParent}
use Rattle.inode_table.specs.inodes.InodeLookUp.{look_up_in}
use Rattle.inode_table.specs.inodes.declared.inode.Body as stored
use Rattle.inode_table.specs.inodes.declared.inode.Body.TheVariants as code
use Rattle.inode_table.specs.inodes.declared.inode.Inode.{Inode}

-- in a directory, the one above is the one that it keeps
named_in : (w : Files) (who : Caller) (n : ℕ) (name : List ℕ) (f : File) (b : stored.Body)
    → KeepsParent b (parent_of w n)
    → (listing_or stats.NotDir (body_in b)
    >>= (λ l. if may_search who f then ok_or stats.NoEnt (number_named w n l name) else Err stats.Acces))
    ≡ (listing_or stats.NotDir (body_in b)
    >>= (λ l. if may_search who f then ok_or stats.NoEnt
    (number_in_listing n (parent_in b) l name) else Err stats.Acces))
named_in w who n name f (code.Regular bytes) kept = refl
named_in w who n name f (code.Symlink target) kept = refl
named_in w who n name f (code.Directory parent l) kept =
    ap (λ above. if may_search who f then ok_or stats.NoEnt
    (number_in_listing n above l name) else Err stats.Acces) (sym kept)

module _ (w : Files) (n : ℕ) where
  -- the file is there, as its inode
  pub seen : (found : Option (Bor Inode)) → option_map (λ i. file_in i.now) found ≡ file_at w n
      → (i : Bor Inode) → found ≡ Some i → file_at w n ≡ Some (file_in i.now)
  seen found file i is = sym file ∙ ap (option_map (λ (i : Bor Inode). file_in i.now)) is

  -- no inode, no file
  pub unseen : (found : Option (Bor Inode)) → option_map (λ i. file_in i.now) found ≡ file_at w n
      → found ≡ None → file_at w n ≡ None
  unseen found file is = sym file ∙ ap (option_map (λ (i : Bor Inode). file_in i.now)) is

  -- STALE where no file has the number
  pub attributes_none : file_at w n ≡ None → attributes_at w n ≡ Err stats.Stale
  attributes_none none = ap (λ o. ok_or stats.Stale o >>= (λ f. Ok (attributes_of w n f))) none

  -- the attributes of the file that has the number
  pub attributes_some : (f : File) → file_at w n ≡ Some f → attributes_at w n ≡ Ok (attributes_of w n f)
  attributes_some f there = ap (λ o. ok_or stats.Stale o >>= (λ f. Ok (attributes_of w n f))) there

  -- a look-up is STALE where no file has the directory's number
  pub number_none : (who : Caller) (name : List ℕ) → file_at w n ≡ None
      → number_at_name w who n name ≡ Err stats.Stale
  number_none who name none =
      ap (λ o. ok_or stats.Stale o
      >>= (λ f. listing_or stats.NotDir f.body
      >>= (λ l. if may_search who f then ok_or stats.NoEnt
      (number_named w n l name) else Err stats.Acces))) none

  -- a look-up in the file that has the number is a look-up in its inode
  pub number_some : (who : Caller) (name : List ℕ) (inode : Inode) → file_at w n ≡ Some (file_in inode)
      → KeepsParent inode.body (parent_of w n) → number_at_name w who n name ≡ look_up_in who n inode name
  number_some who name inode there parent =
      ap (λ o. ok_or stats.Stale o
      >>= (λ f. listing_or stats.NotDir f.body
      >>= (λ l. if may_search who f then ok_or stats.NoEnt
      (number_named w n l name) else Err stats.Acces))) there
      ∙ named_in w who n name (file_in inode) inode.body parent

-- a call that leaves the files as they were gives the attributes of a file that is there
pub told_there : (effect : Effect (Unit {0})) (w : Files) (n : ℕ) (f : File) → file_at w n ≡ Some f
    → (r : Result Fattr Stat) → effect ≡ Ok (tt, w) → r ≡ attributes_at w n → DoesAt effect n w r w
told_there effect w n f at (Ok a) does is = (does, sym is)
told_there effect w n f at (Err e) does is = absurd (ok_err (sym (is ∙ attributes_some w n f at)))
  where
    ok_err : {A E : Type 0} {x : A} {e : E} → Ok x ≡ Err e → ⊥
    ok_err h = cc
