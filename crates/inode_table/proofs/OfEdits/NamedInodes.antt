-- A new inode, and a name of it.
-- Serves: `add_named`; what a table asks of a directory before it puts a name.
use Rattle.std.proofs.Common.{◌≡◌, ◌≢◌, ⊎_elim, ℕ, ◌+◌, ◌<◌, Bool, cond, List, Option, Some, None, option_map}
use Rattle.std.proofs.Common.{IsSome, is_some, refl, sym, ap, subst, ◌∙◌}
use Rattle.std.specs.Option.{option_map_or}
use Rattle.std.proofs.lemmas.Bool.{cases_eq}
use Rattle.fs_spec.specs.nfs_items.Timeval.{Timeval}
use Rattle.fs_spec.specs.Files.{File, file_at, listing_in}
use Rattle.fs_spec.proofs.Walks.{none_some, some_same}
use Rattle.fs_spec.specs.Changes.Edits.{with_name}
use Rattle.fs_spec.proofs.OfChanges.Finite.{new_other, gone_here, gone_other}
use Rattle.nfs_count_laws.specs.nfs_spec.Changes.{touch, with_mtime}
use Rattle.tree_rules.specs.inodes.declared.inode.Inode.{Inode}
use Rattle.tree_rules.specs.inodes.Inodes.{body_in, file_in, files_of, inode_at, parent_in, links_at}
use Rattle.tree_rules.specs.inodes.Inodes.{above_at}
use Rattle.tree_rules.specs.inodes.Inodes.{stored_at}
use Rattle.inode_table.specs.Edits.Slots.{AreAlike, ChangesFile, AddsInode, RemovesInode, AddsEntry}
use Rattle.inode_table.specs.Edits.Slots.{AddsNamed}
use Rattle.tree_rules.proofs.inodes.FilesSeen.{file_seen}
use Rattle.inode_table.proofs.OfEdits.EditedInodes.{same_files, some_mapped}

-- a number with a file has an inode
pub has_inode : (es : List (ℕ × Inode)) (n : ℕ) (f : File) → stored_at es n ≡ Some f → IsSome (inode_at es n)
has_inode es n f at = sym (some_mapped file_in (inode_at es n)) ∙ ap is_some at

-- a number without a file has none
no_inode : (o : Option Inode) → option_map file_in o ≡ None → o ≡ None
no_inode None h = refl
no_inode (Some i) h = absurd (none_some (sym h))

-- what its file lists is what its inode lists
pub listed_room : (es : List (ℕ × Inode)) (n : ℕ) (f : File) → stored_at es n ≡ Some f
    → (listing_in f.body).next < 4294967295
    → (inode : Inode) → inode_at es n ≡ Some inode → (listing_in (body_in inode.body)).next < 4294967295
listed_room es n f at room inode is =
    subst (λ (g : File). (listing_in g.body).next < 4294967295)
    (some_same (sym at ∙ ap (option_map file_in) is)) room

-- ---- a new inode

module _ (es added : List (ℕ × Inode)) (number : ℕ) (inode : Inode)
    (a : AddsInode number inode es added) where
  -- other numbers have the file that they had
  pub added_other : (n : ℕ) → n ≢ number → stored_at added n ≡ stored_at es n
  added_other n ne =
      sym (file_seen 0 (number + 1) added n) ∙ ap (λ w. file_at w n) (a.files 0)
      ∙ new_other (files_of 0 number es) (file_in inode) n ne ∙ file_seen 0 number es n

  module _ (free : stored_at es number ≡ None) where
    -- another number than a directory's
    pub apart_from : (dir : ℕ) (f : File) → stored_at es dir ≡ Some f → dir ≢ number
    apart_from dir f at e = none_some (sym free ∙ sym (ap (stored_at es) e) ∙ at)

    module _ (mid es' : List (ℕ × Inode)) where
      -- taken out again, nothing has changed
      pub taken_back : AreAlike added mid → RemovesInode number mid es' → AreAlike es es'
      taken_back same r = record {
        files =
            λ fsid next. same_files (files_of fsid next es') (files_of fsid next es) refl refl (λ n. ⊎_elim
            (λ e. file_seen fsid next es' n ∙ ap (stored_at es') e ∙ gone
            ∙ sym (file_seen fsid next es n ∙ ap (stored_at es) e ∙ free))
            (λ ne. file_seen fsid next es' n ∙ left n ne ∙ sym (file_seen fsid next es n))
            (cases_eq n number));
        links = λ n. ⊎_elim
            (λ e. ap (links_at es') e ∙ r.own ∙ sym
            (ap (links_at es) e ∙ ap (λ (o : Option Inode). option_map_or (λ i. i.nlink) o 0) none))
            (λ ne. r.links n ne ∙ same.links n ∙ a.links n ne)
            (cases_eq n number);
        above = λ n. ⊎_elim
            (λ e. ap (above_at es') e ∙ r.own_above
            ∙ sym (ap (above_at es) e ∙ ap (λ (o : Option Inode). option_map_or
            (λ i. parent_in i.body) o 1) none))
            (λ ne. r.above n ne ∙ same.above n ∙ a.above n ne)
            (cases_eq n number);
      }
        where
          none : inode_at es number ≡ None
          none = no_inode (inode_at es number) free

          gone : stored_at es' number ≡ None
          gone =
              sym (file_seen 0 0 es' number) ∙ ap (λ w. file_at w number) (r.files 0 0)
              ∙ gone_here (files_of 0 0 mid) number number refl

          left : (n : ℕ) → n ≢ number → stored_at es' n ≡ stored_at es n
          left n ne =
              sym (file_seen 0 0 es' n) ∙ ap (λ w. file_at w n) (r.files 0 0)
              ∙ gone_other (files_of 0 0 mid) number n ne
              ∙ ap (λ w. file_at w n) (same.files 0 0) ∙ file_seen 0 0 added n ∙ added_other n ne

      -- named and touched, it is a new file with a name
      pub adds_named : (now : Timeval) (dir : ℕ) (name : List ℕ) (b : Bool) → dir ≢ number
          → AddsEntry dir name number b added mid
          → ChangesFile dir (with_mtime now) mid es' → AddsNamed now dir name number inode b es es'
      adds_named now dir name b apart e t = record {
        files = λ fsid. t.files fsid (number + 1)
            ∙ ap (λ w. touch now w dir) (e.files fsid (number + 1)
            ∙ ap (λ w. with_name w dir name number) (a.files fsid));
        own = t.links number ∙ e.links number (λ same. apart (sym same)) ∙ a.own;
        own_above = t.above number ∙ e.above number ∙ a.own_above;
        directory = t.links dir ∙ e.own ∙ ap (λ m. m + cond b 1 0) (a.links dir apart);
        links = λ n ne other. t.links n ∙ e.links n other ∙ a.links n ne;
        above = λ n ne. t.above n ∙ e.above n ∙ a.above n ne;
      }
