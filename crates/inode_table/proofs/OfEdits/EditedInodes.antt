-- What the inodes say after the one of a number changed, came or went.
-- Serves: all edits of src/edits/slots.rt.
use Rattle.std.proofs.Common.{◌≡◌, ◌≢◌, ⊎_elim, ℕ, ◌+◌, Bool, cond, List, Option, Some, None, option_map}
use Rattle.std.proofs.Common.{IsSome, is_some, refl, sym, ap, ◌∙◌}
use Rattle.std.specs.Option.{option_map_or}
use Rattle.std.specs.Ordering.{nat_cmp, eq_by_cmp}
use Rattle.std.specs.BTreeMap.{BTreeMap}
use Rattle.std.specs.Cmp.{nat_cmp_total}
use Rattle.std.specs.FinMap as finite
use Rattle.std.proofs.lemmas.Bool.{cases_eq}
use Rattle.fs_spec.specs.nfs_items.Timeval.{Timeval}
use Rattle.fs_spec.specs.Listing.{without_entry}
use Rattle.fs_spec.specs.Files.{File, Files, file_at, is_directory}
use Rattle.fs_spec.proofs.Walks.{none_some, some_same}
use Rattle.fs_spec.specs.Changes.Edits.{with_changed_file, with_new_file, without_file, map_listing}
use Rattle.nfs_count_laws.specs.nfs_spec.Changes.{after_unlink}
use Rattle.nfs_count_laws.specs.CountChanges.{is_last_name, blocks_freed}
use Rattle.fs_spec.proofs.OfChanges.Finite.{cmp_same, cmp_other, new_here, new_other, nothing_changes}
use Rattle.fs_spec.proofs.OfChanges.Finite.{changed_here}
use Rattle.fs_spec.proofs.OfChanges.Finite.{changed_other, gone_here, gone_other}
use Rattle.tree_rules.specs.inodes.declared.inode.Inode.{Inode}
use Rattle.tree_rules.specs.inodes.Inodes.{body_in, file_in, inode_at, files_of, parent_in, links_at}
use Rattle.tree_rules.specs.inodes.Inodes.{above_at}
use Rattle.tree_rules.specs.inodes.Inodes.{stored_at}
use Rattle.inode_table.specs.Edits.Slots.{AreAlike, ChangesFile, ChangesLinks, AddsInode, RemovesInode}
use Rattle.inode_table.specs.Edits.Slots.{SetsParent}
use Rattle.inode_table.specs.Edits.Slots.{MayUnname, TakesEntry, DropsName, Unnames}
use Rattle.tree_rules.proofs.inodes.FilesSeen.{file_seen}

-- files are the same where each number has the same
pub same_files : (v w : Files) → v.fsid ≡ w.fsid → v.next ≡ w.next → ((n : ℕ) → file_at v n ≡ file_at w n)
    → v ≡ w
same_files v w fsid next same =
    let files = finite.same_map nat_cmp_total finite.nat_cmp-IsAntisymmetric v.files w.files same in
    λ i. record { fsid = fsid i; next = next i; files = files i }

-- changes that do the same to the file that is there do the same
pub changed_alike : (w : Files) (k : ℕ) (f : File) (c d : File → File) → file_at w k ≡ Some f → c f ≡ d f
    → with_changed_file w k c ≡ with_changed_file w k d
changed_alike w k f c d there same =
    same_files (with_changed_file w k c) (with_changed_file w k d) refl refl (λ n. ⊎_elim
    (λ e. changed_here w k c n e ∙ ap (option_map c) there ∙ ap (λ g. Some g) same
    ∙ sym (changed_here w k d n e ∙ ap (option_map d) there))
    (λ ne. changed_other w k c n ne ∙ sym (changed_other w k d n ne))
    (cases_eq n k))

module _ (es es' : List (ℕ × Inode)) (k : ℕ) (w : Option Inode)
    (at : (n : ℕ) → inode_at es' n ≡ cond (eq_by_cmp nat_cmp k n) w (inode_at es n)) where
  -- the number has what it was given
  pub here : inode_at es' k ≡ w
  here = at k ∙ ap (λ b. cond b w (inode_at es k)) (cmp_same k k refl)

  -- the others have what they had
  other : (n : ℕ) → n ≢ k → inode_at es' n ≡ inode_at es n
  other n ne = at n ∙ ap (λ b. cond b w (inode_at es n)) (cmp_other k n (λ e. ne (sym e)))

  -- the files by what the number has, and by what the others have
  files_by : (fsid next : ℕ) (v : Files) → next ≡ v.next → fsid ≡ v.fsid → option_map file_in w ≡ file_at v k
      → ((n : ℕ) → n ≢ k → file_at (files_of fsid next es) n ≡ file_at v n) → files_of fsid next es' ≡ v
  files_by fsid next v next_same fsid_same own others =
      same_files (files_of fsid next es') v fsid_same next_same (λ n. ⊎_elim
      (λ e. file_seen fsid next es' n ∙ ap (λ m. option_map file_in (inode_at es' m)) e
      ∙ ap (option_map file_in) here ∙ own ∙ ap (file_at v) (sym e))
      (λ ne. file_seen fsid next es' n ∙ ap (option_map file_in) (other n ne)
      ∙ sym (file_seen fsid next es n) ∙ others n ne)
      (cases_eq n k))

  -- what reads an inode reads the same of each number, where it does of the one
  same_by : {A : Type 0} (read : Option Inode → A) → read w ≡ read (inode_at es k) → (n : ℕ)
      → read (inode_at es' n) ≡ read (inode_at es n)
  same_by read own n = ⊎_elim
      (λ e. ap (λ m. read (inode_at es' m)) e ∙ ap read here ∙ own ∙ ap (λ m. read (inode_at es m)) (sym e))
      (λ ne. ap read (other n ne))
      (cases_eq n k)

  others_by : {A : Type 0} (read : Option Inode → A) (n : ℕ) → n ≢ k
      → read (inode_at es' n) ≡ read (inode_at es n)
  others_by read n ne = ap read (other n ne)

  module _ (i i' : Inode) (there : inode_at es k ≡ Some i) (is : w ≡ Some i') where
    links_stay : i'.nlink ≡ i.nlink → (n : ℕ) → links_at es' n ≡ links_at es n
    links_stay e = same_by (λ o. option_map_or (λ i. i.nlink) o 0)
        (ap (λ (o : Option Inode). option_map_or (λ i. i.nlink) o 0) is ∙ e
        ∙ sym (ap (λ (o : Option Inode). option_map_or (λ i. i.nlink) o 0) there))

    above_stays : parent_in i'.body ≡ parent_in i.body → (n : ℕ) → above_at es' n ≡ above_at es n
    above_stays e = same_by (λ o. option_map_or (λ i. parent_in i.body) o 1)
        (ap (λ (o : Option Inode). option_map_or (λ i. parent_in i.body) o 1) is ∙ e
        ∙ sym (ap (λ (o : Option Inode). option_map_or (λ i. parent_in i.body) o 1) there))

    -- the files stay where the one of the number does
    pub files_stay : file_in i' ≡ file_in i → (fsid next : ℕ) → files_of fsid next es' ≡ files_of fsid next es
    files_stay e fsid next = files_by fsid next (files_of fsid next es) refl refl
        (ap (option_map file_in) is ∙ ap (λ f. Some f) e
        ∙ sym (file_seen fsid next es k ∙ ap (option_map file_in) there)) (λ n ne. refl)

    -- the file of a number, changed
    pub changes_file : (change : File → File) → file_in i' ≡ change (file_in i) → i'.nlink ≡ i.nlink
        → parent_in i'.body ≡ parent_in i.body → ChangesFile k change es es'
    changes_file change file nlink parent = record {
      files = λ fsid next. files_by fsid next (with_changed_file (files_of fsid next es) k change) refl refl
          (ap (option_map file_in) is ∙ ap (λ f. Some f) file
          ∙ sym (changed_here (files_of fsid next es) k change k refl
          ∙ ap (option_map change) (file_seen fsid next es k ∙ ap (option_map file_in) there)))
          (λ n ne. sym (changed_other (files_of fsid next es) k change n ne));
      links = links_stay nlink;
      above = above_stays parent;
    }

    -- an inode that is seen as it was
    pub alike : file_in i' ≡ file_in i → i'.nlink ≡ i.nlink → parent_in i'.body ≡ parent_in i.body
        → AreAlike es es'
    alike file nlink parent =
        record { files = files_stay file; links = links_stay nlink; above = above_stays parent }

    -- another nlink
    pub changes_links : file_in i' ≡ file_in i → parent_in i'.body ≡ parent_in i.body → ChangesLinks k es es'
    changes_links file parent = record {
      files = files_stay file;
      links = others_by (λ o. option_map_or (λ i. i.nlink) o 0);
      above = above_stays parent;
    }

    -- another directory above
    pub sets_parent : (parent : ℕ) → file_in i' ≡ file_in i → i'.nlink ≡ i.nlink
        → parent_in i'.body ≡ cond (is_directory (body_in i.body)) parent (parent_in i.body)
        → SetsParent k parent es es'
    sets_parent parent file nlink above = record {
      files = files_stay file;
      links = links_stay nlink;
      own = λ inode at kind.
          ap (λ (o : Option Inode). option_map_or (λ i. parent_in i.body) o 1) (here ∙ is) ∙ above
          ∙ ap (λ b. cond b parent (parent_in i.body))
          (ap (λ (i : Inode). is_directory (body_in i.body)) (some_same (sym there ∙ at)) ∙ kind);
      others = others_by (λ o. option_map_or (λ i. parent_in i.body) o 1);
    }

  -- one inode more
  pub adds_inode : (i : Inode) → w ≡ Some i → AddsInode k i es es'
  adds_inode i is = record {
    files = λ fsid. files_by fsid (k + 1) (with_new_file (files_of fsid k es) (file_in i)) refl refl
        (ap (option_map file_in) is ∙ sym (new_here (files_of fsid k es) (file_in i) k refl))
        (λ n ne. sym (new_other (files_of fsid k es) (file_in i) n ne));
    own = ap (λ (o : Option Inode). option_map_or (λ i. i.nlink) o 0) (here ∙ is);
    own_above = ap (λ (o : Option Inode). option_map_or (λ i. parent_in i.body) o 1) (here ∙ is);
    links = others_by (λ o. option_map_or (λ i. i.nlink) o 0);
    above = others_by (λ o. option_map_or (λ i. parent_in i.body) o 1);
  }

  -- one inode less
  pub removes_inode : w ≡ None → RemovesInode k es es'
  removes_inode is = record {
    files = λ fsid next. files_by fsid next (without_file (files_of fsid next es) k) refl refl
        (ap (option_map file_in) is ∙ sym (gone_here (files_of fsid next es) k k refl))
        (λ n ne. sym (gone_other (files_of fsid next es) k n ne));
    own = ap (λ (o : Option Inode). option_map_or (λ i. i.nlink) o 0) (here ∙ is);
    own_above = ap (λ (o : Option Inode). option_map_or (λ i. parent_in i.body) o 1) (here ∙ is);
    links = others_by (λ o. option_map_or (λ i. i.nlink) o 0);
    above = others_by (λ o. option_map_or (λ i. parent_in i.body) o 1);
  }

-- the file of a number whose inode is there is the inode's
pub its_file : (es : List (ℕ × Inode)) (k : ℕ) (i : Inode) (f : File) → inode_at es k ≡ Some i
    → stored_at es k ≡ Some f → file_in i ≡ f
its_file es k i f there at = some_same (sym (ap (option_map file_in) there) ∙ at)

-- equal maps have the same inodes
pub entries_same : (m n : BTreeMap ℕ Inode) → m ≡ n → m.entries ≡ n.entries
entries_same m n e = ap (λ (x : BTreeMap ℕ Inode). x.entries) e

-- the same inodes
pub unchanged : (es es' : List (ℕ × Inode)) → es' ≡ es → AreAlike es es'
unchanged es es' e = record {
  files = λ fsid next. ap (files_of fsid next) e;
  links = λ n. ap (λ x. links_at x n) e;
  above = λ n. ap (λ x. above_at x n) e;
}

-- a number that has no inode has no file to change
pub nothing_there : (es es' : List (ℕ × Inode)) (k : ℕ) (change : File → File) → inode_at es k ≡ None
    → es' ≡ es
    → ChangesFile k change es es'
nothing_there es es' k change none e =
    let same = unchanged es es' e in
    record {
      files = λ fsid next. same.files fsid next
          ∙ sym (nothing_changes (files_of fsid next es) k change 0
          (file_seen fsid next es k ∙ ap (option_map file_in) none));
      links = same.links;
      above = same.above;
    }

-- nor a parent
pub no_parent : (es es' : List (ℕ × Inode)) (k parent : ℕ) → inode_at es k ≡ None → es' ≡ es
    → SetsParent k parent es es'
no_parent es es' k parent none e =
    let same = unchanged es es' e in
    record {
      files = same.files;
      links = same.links;
      own = λ inode at kind. absurd (none_some (sym none ∙ at));
      others = λ n ne. same.above n;
    }

-- ---- edits of a name, by edits of single inodes

-- a file of another number stays where a file changes
pub other_stored : (es es' : List (ℕ × Inode)) (k : ℕ) (change : File → File) → ChangesFile k change es es'
    → (n : ℕ) → n ≢ k
    → stored_at es' n ≡ stored_at es n
other_stored es es' k change t n ne =
    sym (file_seen 0 0 es' n) ∙ ap (λ w. file_at w n) (t.files 0 0)
    ∙ changed_other (files_of 0 0 es) k change n ne ∙ file_seen 0 0 es n

-- the file of the number is the changed one
pub own_stored : (es es' : List (ℕ × Inode)) (k : ℕ) (change : File → File) → ChangesFile k change es es'
    → stored_at es' k ≡ option_map change (stored_at es k)
own_stored es es' k change t =
    sym (file_seen 0 0 es' k) ∙ ap (λ w. file_at w k) (t.files 0 0)
    ∙ changed_here (files_of 0 0 es) k change k refl ∙ ap (option_map change) (file_seen 0 0 es k)

-- what is mapped is there where it was
pub some_mapped : {A B : Type 0} (f : A → B) (o : Option A) → is_some (option_map f o) ≡ is_some o
some_mapped f None = refl
some_mapped f (Some x) = refl

-- an inode is still there where its file changed
pub still_there : (es es' : List (ℕ × Inode)) (k : ℕ) (change : File → File) → ChangesFile k change es es'
    → IsSome (inode_at es k) → IsSome (inode_at es' k)
still_there es es' k change t is =
    sym (some_mapped file_in (inode_at es' k)) ∙ ap is_some (own_stored es es' k change t)
    ∙ some_mapped change (stored_at es k) ∙ some_mapped file_in (inode_at es k) ∙ is

-- a name that goes, and with it a link or the file
pub unnamed : (es mid es' : List (ℕ × Inode)) (now : Timeval) (dir : ℕ) (name : List ℕ) (number : ℕ)
    (f : File) (freed : ℕ)
    → MayUnname es dir number f → TakesEntry dir name (is_directory f.body) es mid
    → DropsName now number (is_last_name f.body (links_at es number)) mid es'
    → freed ≡ blocks_freed f.body (links_at es number) → Unnames now dir name number f freed es es'
unnamed es mid es' now dir name number f freed may t d is = record {
  files = λ fsid next. d.files fsid next
      ∙ ap (λ w. after_unlink (is_last_name f.body (links_at es number)) now w number) (t.files fsid next);
  links = record {
    directory = ap (λ m. m + cond (is_directory f.body) 1 0) (d.links dir may.apart) ∙ t.own;
    own = λ e. d.own e ∙ t.links number (λ same. may.apart (sym same));
    others = λ n ne apart. d.links n ne ∙ t.links n apart;
  };
  above = λ n ne. d.above n ne ∙ t.above n;
  freed_blocks = is;
}

-- the file that a name goes from stays meanwhile
pub taken_other : (es es' : List (ℕ × Inode)) (dir : ℕ) (name : List ℕ) (b : Bool)
    → TakesEntry dir name b es es' → (n : ℕ) → n ≢ dir
    → stored_at es' n ≡ stored_at es n
taken_other es es' dir name b t n ne =
    sym (file_seen 0 0 es' n) ∙ ap (λ w. file_at w n) (t.files 0 0)
    ∙ changed_other (files_of 0 0 es) dir (map_listing (λ l. without_entry l name)) n ne ∙ file_seen 0 0 es n
