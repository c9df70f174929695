-- A file whose name is another's already loses it.
-- Serves: drop_replaced, drop_target of src/edits/renaming.rt.
use Rattle.std.proofs.Common.{◌≡◌, ℕ, ◌+◌, Bool, cond, List, Option, Some, sym, ap, subst, ◌∙◌}
use Rattle.fs_spec.specs.nfs_items.Timeval.{Timeval}
use Rattle.fs_spec.specs.Files.{File, file_at, is_directory}
use Rattle.fs_spec.proofs.Walks.{none_some, some_same}
use Rattle.nfs_count_laws.specs.nfs_spec.Changes.{after_unlink}
use Rattle.nfs_count_laws.specs.CountChanges.{is_last_name, blocks_freed}
use Rattle.tree_rules.specs.inodes.declared.inode.Inode.{Inode}
use Rattle.inode_table.specs.Edits.Slots.{MayUnname, DropsName}
use Rattle.tree_rules.specs.inodes.Inodes.{links_at, stored_at}
use Rattle.inode_table.specs.Edits.Moves.{DropsTarget, LosesLink, LosesName}
use Rattle.tree_rules.proofs.inodes.FilesSeen.{file_seen}

-- files stay where a directory has a link less
pub same_stored : (es es' : List (ℕ × Inode)) (dir : ℕ) (b : Bool) → LosesLink dir b es es' → (n : ℕ)
    → stored_at es' n ≡ stored_at es n
same_stored es es' dir b t n =
    sym (file_seen 0 0 es' n) ∙ ap (λ w. file_at w n) (t.files 0 0) ∙ file_seen 0 0 es n

-- a link goes, and with it the file where it was its last
pub replaced_gone : (es mid es' : List (ℕ × Inode)) (now : Timeval) (dir number : ℕ) (f : File) (freed : ℕ)
    → MayUnname es dir number f → LosesLink dir (is_directory f.body) es mid
    → DropsName now number (is_last_name f.body (links_at es number)) mid es'
    → freed ≡ blocks_freed f.body (links_at es number) → LosesName now dir number f freed es es'
replaced_gone es mid es' now dir number f freed may t d is = record {
  files = λ fsid next. d.files fsid next
      ∙ ap (λ w. after_unlink (is_last_name f.body (links_at es number)) now w number) (t.files fsid next);
  links = record {
    directory = ap (λ m. m + cond (is_directory f.body) 1 0) (d.links dir may.apart) ∙ t.own;
    own = λ e. d.own e ∙ t.links number (λ same. may.apart (sym same));
    others = λ n ne apart. d.links n ne ∙ t.links n apart;
  };
  above = λ n ne. d.above n ne ∙ t.above n;
  freed_blocks = is;
}

-- what stood under a name is what was dropped
pub drops_some : (es es' : List (ℕ × Inode)) (now : Timeval) (dir : ℕ) (target : Option ℕ) (number freed : ℕ)
    → target ≡ Some number
    → ((f : File) → stored_at es number ≡ Some f → LosesName now dir number f freed es es')
    → DropsTarget now dir target freed es es'
drops_some es es' now dir target number freed is loses = record {
  none = λ e. absurd (none_some (sym e ∙ is));
  same = λ e. absurd (none_some (sym e ∙ is));
  some = λ t f e at.
      let same = some_same (sym is ∙ e) in
      subst (λ n. LosesName now dir n f freed es es') same (loses f (ap (stored_at es) same ∙ at));
}
