-- What each change of files leaves of the others: the files that are none of those changed.
-- Serves: calls_keep_the_files_they_do_not_name (frames), by UnnamedFiles; renaming_keeps_the_rest
-- (changes), by RenamedFiles.
use Rattle.std.proofs.Common.{◌≡◌, ◌≢◌, ℕ, Bool, true, false, List, Option, Some, None, eqb, refl, ◌∙◌}
use Rattle.nfs_spec.specs.nfs_items.Timeval.{Timeval}
use Rattle.nfs_spec.specs.fs_spec.Listing.{with_entry, without_entry}
use Rattle.nfs_spec.specs.fs_spec.Files.{File, Files, file_at, names_of}
use Rattle.nfs_spec.specs.fs_spec.Changes.Edits.{with_new_file, map_listing, with_name, without_name}
use Rattle.nfs_spec.proofs.fs_spec.OfChanges.Finite.{new_other, changed_other, gone_other}
use Rattle.nfs_spec.specs.Changes.{touch, with_mtime, touch_ctime, with_ctime, unlink, after_unlink}
use Rattle.nfs_spec.specs.Procedures.{add_file, unlink_target, move_entry}

module _ (now : Timeval) (w : Files) where
  -- a new file leaves all but the directory and the new number
  pub made_other : (dir : ℕ) (name : List ℕ) (f : File) (m : ℕ) → m ≢ dir → m ≢ w.next
      → file_at (add_file now w dir name f) m ≡ file_at w m
  made_other dir name f m nd nn =
      changed_other (with_name (with_new_file w f) dir name w.next) dir (with_mtime now) m nd
      ∙ changed_other (with_new_file w f) dir (map_listing (λ l. with_entry l name w.next)) m nd
      ∙ new_other w f m nn

  -- a new name leaves all but the file and the directory
  pub linked_other : (from dir : ℕ) (name : List ℕ) (m : ℕ) → m ≢ from → m ≢ dir
      → file_at (touch now (with_name (touch_ctime now w from) dir name from) dir) m ≡ file_at w m
  linked_other from dir name m nf nd =
      changed_other (with_name (touch_ctime now w from) dir name from) dir (with_mtime now) m nd
      ∙ changed_other (touch_ctime now w from) dir (map_listing (λ l. with_entry l name from)) m nd
      ∙ changed_other w from (with_ctime now) m nf

  -- a name that goes leaves all but its directory and what it stood for
  pub unnamed_other : (dir : ℕ) (name : List ℕ) (n m : ℕ) → m ≢ dir → m ≢ n
      → file_at (unlink now w dir name n) m ≡ file_at w m
  unnamed_other dir name n m nd nn =
      by (eqb (names_of (without_name w dir name) n) 0)
      ∙ changed_other w dir (map_listing (λ l. without_entry l name)) m nd
    where
      by : (b : Bool) → file_at (after_unlink b now (without_name w dir name) n) m
          ≡ file_at (without_name w dir name) m
      by true = gone_other (without_name w dir name) n m nn
      by false = changed_other (without_name w dir name) n (with_ctime now) m nn

  -- REMOVE and RMDIR leave all but the directory and what the name stood for
  pub removed_other : (dir : ℕ) (name : List ℕ) (n m : ℕ) → m ≢ dir → m ≢ n
      → file_at (touch now (unlink now w dir name n) dir) m ≡ file_at w m
  removed_other dir name n m nd nn =
      changed_other (unlink now w dir name n) dir (with_mtime now) m nd ∙ unnamed_other dir name n m nd nn

  -- what goes for RENAME leaves all but its directory and itself
  pub cleared_other : (dir : ℕ) (name : List ℕ) (t : Option ℕ) (m : ℕ) → m ≢ dir
      → ((n : ℕ) → t ≡ Some n → m ≢ n) → file_at (unlink_target now w dir name t) m ≡ file_at w m
  cleared_other dir name None m nd nt = refl
  cleared_other dir name (Some n) m nd nt = unnamed_other dir name n m nd (nt n refl)

  -- what neither directory is changes by the target's going and by the mark alone
  pub moved_apart : (n from : ℕ) (from_name : List ℕ) (to : ℕ) (to_name : List ℕ) (t : Option ℕ) (m : ℕ)
      → m ≢ from → m ≢ to
      → file_at (move_entry now w n from from_name to to_name t) m
      ≡ file_at (touch_ctime now
      (with_name (without_name (unlink_target now w to to_name t) from from_name) to to_name n) n) m
  moved_apart n from from_name to to_name t m nf nt =
      let w₄ = touch_ctime now
      (with_name (without_name (unlink_target now w to to_name t) from from_name) to to_name n) n in
      changed_other (touch now w₄ from) to (with_mtime now) m nt ∙ changed_other w₄ from (with_mtime now) m nf

  -- before its mark a file that is neither directory is as it was after the target went
  pub before_mark : (n from : ℕ) (from_name : List ℕ) (to : ℕ) (to_name : List ℕ) (t : Option ℕ) (m : ℕ)
      → m ≢ from → m ≢ to
      → file_at (with_name (without_name (unlink_target now w to to_name t) from from_name) to to_name n) m
      ≡ file_at (unlink_target now w to to_name t) m
  before_mark n from from_name to to_name t m nf nt =
      let w₁ = unlink_target now w to to_name t in
      changed_other (without_name w₁ from from_name) to (map_listing (λ l. with_entry l to_name n)) m nt
      ∙ changed_other w₁ from (map_listing (λ l. without_entry l from_name)) m nf

  -- RENAME leaves all but both directories, the file, and what stood at the new name
  pub moved_other : (n from : ℕ) (from_name : List ℕ) (to : ℕ) (to_name : List ℕ) (t : Option ℕ) (m : ℕ)
      → m ≢ from → m ≢ to → m ≢ n → ((k : ℕ) → t ≡ Some k → m ≢ k)
      → file_at (move_entry now w n from from_name to to_name t) m ≡ file_at w m
  moved_other n from from_name to to_name t m nf nt nn nk =
      moved_apart n from from_name to to_name t m nf nt
      ∙ changed_other (with_name (without_name
      (unlink_target now w to to_name t) from from_name) to to_name n) n (with_ctime now) m nn
      ∙ before_mark n from from_name to to_name t m nf nt
      ∙ cleared_other to to_name t m nt nk
