-- What stands between a number's file before a call and after it: a relation that each change of one file
-- keeps is kept by every call.
-- Serves: files_stay_what_they_are, calls_keep_the_files_they_do_not_name (frames), by KeptParts.
use Rattle.std.proofs.Common.{◌≡◌, ◌≢◌, ℕ, Bool, true, false, List, Option, Some, None, option_map, ⊎_elim}
use Rattle.std.proofs.Common.{refl, sym, ap, subst, ◌∙◌, eqb}
use Rattle.std.specs.Prelude.{if◌then◌else◌, ◌==◌, length}
use Rattle.std.proofs.lemmas.Bool.{cases_eq}
use Rattle.nfs_spec.specs.nfs_items.Timeval.{Timeval}
use Rattle.nfs_spec.specs.nfs_items.Caller.{Caller}
use Rattle.nfs_spec.specs.fs_spec.Listing.{Listing, with_entry, without_entry}
use Rattle.nfs_spec.specs.fs_spec.Files.{Regular, File, Files, file_at, directory_entries, names_of}
use Rattle.nfs_spec.proofs.fs_spec.Walks.{some_same}
use Rattle.nfs_spec.specs.fs_spec.Changes.Edits.{with_changed_file, with_new_file, without_file, with_name}
use Rattle.nfs_spec.specs.fs_spec.Changes.Edits.{without_name, map_listing}
use Rattle.nfs_spec.proofs.fs_spec.OfChanges.Finite.{new_other, changed_here, changed_other, gone_here}
use Rattle.nfs_spec.proofs.fs_spec.OfChanges.Finite.{gone_other}
use Rattle.nfs_spec.specs.nfs_items.declared.sattr.Sattr.{Sattr}
use Rattle.nfs_spec.specs.Sattr.{given_fields}
use Rattle.nfs_spec.specs.Changes.{apply_fields, touch, with_mtime, touch_ctime, with_ctime, unlink}
use Rattle.nfs_spec.specs.Changes.{after_unlink}
use Rattle.nfs_spec.specs.Procedures.{with_bytes_written, add_file, unlink_target, move_entry}
use Rattle.nfs_spec.specs.nfs_types.Calls as calls
use Rattle.nfs_spec.specs.nfs_types.Calls.{Call, Answer}
use Rattle.nfs_spec.specs.NfsCalls.{number_for, call_does}
use Rattle.nfs_laws.specs.Steps.Granted.{MakeOk, CreateOk}
use Rattle.nfs_laws.proofs.OfSteps.EachCall.{each_call}

-- nothing stays nothing, and what is there stands so to what was or is gone
abbrev pub Step : (File → File → Type 0) → Option File → Option File → Type 0
Step R None o = o ≡ None
Step R (Some f) None = Unit {0}
Step R (Some f) (Some g) = R f g

-- a relation between files, kept by each change of one file that leaves its attributes and bytes alone
pub record IsKept (R : File → File → Type 0) (now : Timeval) : Type 0 where
  -- a file stands so to itself
  pub same : (f : File) → R f f
  -- one change after the other
  pub joins : (f g h : File) → R f g → R g h → R f h
  -- ctime is now
  pub marks : (f : File) → R f (with_ctime now f)
  -- mtime and ctime are now
  pub touches : (f : File) → R f (with_mtime now f)
  -- other names are listed
  pub relists : (change : Listing → Listing) (f : File) → R f (map_listing change f)

-- the relation is kept of a number's file where these calls set its attributes or write its bytes
pub record IsKeptBy (R : File → File → Type 0) (now : Timeval) (n : ℕ) (w : Files)
    (These : Call → Type 0) : Type 0 where
  -- by SETATTR
  pub sets : (file : List ℕ) (s : Sattr) → These (calls.Setattr file s) → n ≡ number_for w file
      → (f : File) → R f (apply_fields now (given_fields now s) f)
  -- by CREATE of a name that is there
  pub creates : (dir name : List ℕ) (s : Sattr) → These (calls.Create dir name s) → (k c : ℕ)
      → directory_entries w (number_for w dir) name ≡ Some (k, c) → n ≡ k
      → (f : File) → R f (apply_fields now (given_fields now s) f)
  -- by WRITE
  pub writes : (file : List ℕ) (offset : ℕ) (new : List ℕ) → These (calls.Write file offset new)
      → n ≡ number_for w file
      → (before : List ℕ) (f : File) → f.body ≡ Regular before
      → R f (with_bytes_written now offset new before f)

module _ (R : File → File → Type 0) (now : Timeval) (kept : IsKept R now) where
  stays : (o : Option File) → Step R o o
  stays None = refl
  stays (Some f) = kept.same f

  stays_as : (a b : Option File) → b ≡ a → Step R a b
  stays_as a b e = subst (Step R a) (sym e) (stays a)

  goes : (o : Option File) → Step R o None
  goes None = refl
  goes (Some f) = tt

  goes_on : (a b c : Option File) → Step R a b → Step R b c → Step R a c
  goes_on None b c h k = subst (λ (o : Option File). Step R o c) h k
  goes_on (Some f) None c h k = subst (Step R (Some f)) (sym k) tt
  goes_on (Some f) (Some g) None h k = tt
  goes_on (Some f) (Some g) (Some i) h k = kept.joins f g i h k

  module _ (n : ℕ) where
    changes : (w : Files) (k : ℕ) (change : File → File)
        → ((f : File) → n ≡ k → file_at w k ≡ Some f → R f (change f))
        → Step R (file_at w n) (file_at (with_changed_file w k change) n)
    changes w k change h = ⊎_elim
        (λ e. subst (λ (o : Option File). Step R o (file_at (with_changed_file w k change) n))
        (sym (ap (file_at w) e))
        (subst (Step R (file_at w k)) (sym (changed_here w k change n e)) (by e (file_at w k) refl)))
        (λ ne. stays_as (file_at w n) (file_at (with_changed_file w k change) n)
        (changed_other w k change n ne))
        (cases_eq n k)
      where
        by : n ≡ k → (o : Option File) → file_at w k ≡ o → Step R o (option_map change o)
        by e None is = refl
        by e (Some f) is = h f e is

    leaves : (w : Files) (k : ℕ) → Step R (file_at w n) (file_at (without_file w k) n)
    leaves w k = ⊎_elim
        (λ e. subst (Step R (file_at w n)) (sym (gone_here w k n e)) (goes (file_at w n)))
        (λ ne. stays_as (file_at w n) (file_at (without_file w k) n) (gone_other w k n ne))
        (cases_eq n k)

    -- one change more
    on : (w v : Files) (k : ℕ) (change : File → File) → ((f : File) → R f (change f))
        → Step R (file_at w n) (file_at v n) → Step R (file_at w n) (file_at (with_changed_file v k change) n)
    on w v k change h a =
        goes_on (file_at w n) (file_at v n) (file_at (with_changed_file v k change) n) a
        (changes v k change (λ f _ _. h f))

    made_step : (w : Files) (dir : ℕ) (name : List ℕ) (f : File) → n ≢ w.next
        → Step R (file_at w n) (file_at (add_file now w dir name f) n)
    made_step w dir name f ne =
        on w (with_name (with_new_file w f) dir name w.next) dir (with_mtime now) kept.touches
        (on w (with_new_file w f) dir (map_listing (λ l. with_entry l name w.next))
        (kept.relists (λ l. with_entry l name w.next))
        (stays_as (file_at w n) (file_at (with_new_file w f) n) (new_other w f n ne)))

    linked_step : (w : Files) (from dir : ℕ) (name : List ℕ)
        → Step R (file_at w n) (file_at (touch now (with_name (touch_ctime now w from) dir name from) dir) n)
    linked_step w from dir name =
        on w (with_name (touch_ctime now w from) dir name from) dir (with_mtime now) kept.touches
        (on w (touch_ctime now w from) dir (map_listing (λ l. with_entry l name from))
        (kept.relists (λ l. with_entry l name from))
        (changes w from (with_ctime now) (λ f _ _. kept.marks f)))

    unnamed_step : (w : Files) (dir : ℕ) (name : List ℕ) (k : ℕ)
        → Step R (file_at w n) (file_at (unlink now w dir name k) n)
    unnamed_step w dir name k = by (eqb (names_of (without_name w dir name) k) 0)
      where
        less : Step R (file_at w n) (file_at (without_name w dir name) n)
        less = changes w dir (map_listing (λ l. without_entry l name))
            (λ f _ _. kept.relists (λ l. without_entry l name) f)

        by : (b : Bool) → Step R (file_at w n) (file_at (after_unlink b now (without_name w dir name) k) n)
        by true = goes_on (file_at w n) (file_at (without_name w dir name) n)
            (file_at (without_file (without_name w dir name) k) n) less (leaves (without_name w dir name) k)
        by false = on w (without_name w dir name) k (with_ctime now) kept.marks less

    removed_step : (w : Files) (dir : ℕ) (name : List ℕ) (k : ℕ)
        → Step R (file_at w n) (file_at (touch now (unlink now w dir name k) dir) n)
    removed_step w dir name k =
        on w (unlink now w dir name k) dir (with_mtime now) kept.touches (unnamed_step w dir name k)

    cleared_step : (w : Files) (dir : ℕ) (name : List ℕ) (t : Option ℕ)
        → Step R (file_at w n) (file_at (unlink_target now w dir name t) n)
    cleared_step w dir name None = stays (file_at w n)
    cleared_step w dir name (Some k) = unnamed_step w dir name k

    moved_step : (w : Files) (k from : ℕ) (from_name : List ℕ) (to : ℕ) (to_name : List ℕ) (t : Option ℕ)
        → Step R (file_at w n) (file_at (move_entry now w k from from_name to to_name t) n)
    moved_step w k from from_name to to_name t =
        let w₁ = unlink_target now w to to_name t in
        let w₂ = without_name w₁ from from_name in
        let w₃ = with_name w₂ to to_name k in
        on w (touch now (touch_ctime now w₃ k) from) to (with_mtime now) kept.touches
        (on w (touch_ctime now w₃ k) from (with_mtime now) kept.touches
        (on w w₃ k (with_ctime now) kept.marks
        (on w w₂ to (map_listing (λ l. with_entry l to_name k)) (kept.relists (λ l. with_entry l to_name k))
        (on w w₁ from (map_listing (λ l. without_entry l from_name))
        (kept.relists (λ l. without_entry l from_name)) (cleared_step w to to_name t)))))

    -- over every call
    module _ (w : Files) (who : Caller) (These : Call → Type 0) (old : n ≢ w.next)
        (by : IsKeptBy R now n w These) where
      abbrev After : Call → Answer → Files → Type 0
      After call answer w' = These call → Step R (file_at w n) (file_at w' n)

      to_same : (v w' : Files) → w' ≡ v → Step R (file_at w n) (file_at v n)
          → Step R (file_at w n) (file_at w' n)
      to_same v w' is a = subst (λ u. Step R (file_at w n) (file_at u n)) (sym is) a

      wrote_step : (k offset : ℕ) (new before : List ℕ)
          → ((f : File) → n ≡ k → file_at w k ≡ Some f → R f (with_bytes_written now offset new before f))
          → (b : Bool)
          → Step R (file_at w n) (file_at (if b then w else with_changed_file w k
          (with_bytes_written now offset new before)) n)
      wrote_step k offset new before h true = stays (file_at w n)
      wrote_step k offset new before h false = changes w k (with_bytes_written now offset new before) h

      new_step : (dir : ℕ) (name : List ℕ) (f : File) (number : ℕ) (w' : Files)
          → MakeOk w who now dir name f number w' → Step R (file_at w n) (file_at w' n)
      new_step dir name f number w' o =
          to_same (add_file now w dir name f) w' o.effect (made_step w dir name f old)

      made_or_set : (dir name : List ℕ) (s : Sattr) → These (calls.Create dir name s)
          → (number : ℕ) (w' : Files) (entry : Option (ℕ × ℕ))
          → directory_entries w (number_for w dir) name ≡ entry
          → CreateOk w who now (number_for w dir) name (given_fields now s) number w'
          → Step R (file_at w n) (file_at w' n)
      made_or_set dir name s a number w' None is o =
          new_step (number_for w dir) name _ number w' (o.fresh is).make
      made_or_set dir name s a number w' (Some e) is o =
          to_same _ w' (o.over e.0 e.1 is).set.effect
          (changes w e.0 (apply_fields now (given_fields now s))
          (λ f m _. by.creates dir name s a e.0 e.1 is m f))

      -- what stands between a number's file before a call and after it
      pub steps : (call : Call) → These call → Step R (file_at w n) (file_at (call_does w who now call).1 n)
      steps = each_call w who now After (record {
        reads = λ call answer only a. stays (file_at w n);
        refused = λ call answer stat says a. stays (file_at w n);
        set_attributes =
            λ file s _ after o _ a. to_same _ after o.effect
            (changes w (number_for w file) (apply_fields now (given_fields now s))
            (λ f e _. by.sets file s a e f));
        write = λ file offset new _ after o _ a.
            to_same _ after o.effect
            (wrote_step (number_for w file) offset new o.old
            (λ f e is. by.writes file offset new a e o.old f
            (ap (λ (g : File). g.body) (some_same (sym is ∙ o.there)) ∙ o.regular)) (length new == 0));
        create = λ dir name s number _ after o _ a. made_or_set dir name s a number after
            (directory_entries w (number_for w dir) name) refl o;
        make_dir = λ dir name s number _ after o _ a. new_step (number_for w dir) name _ number after o;
        symlink = λ dir name target s number after o a. new_step (number_for w dir) name _ number after o;
        link = λ from dir name after o a. to_same _ after o.effect
            (linked_step w (number_for w from) (number_for w dir) name);
        remove = λ dir name after o a. to_same _ after o.effect
            (removed_step w (number_for w dir) name o.number);
        remove_dir =
            λ dir name after o a. to_same _ after o.effect (removed_step w (number_for w dir) name o.number);
        rename = λ from from_name to to_name after o a. ⊎_elim
            (λ same. to_same w after same.1 (stays (file_at w n)))
            (λ m. to_same _ after m.effect
            (moved_step w o.number (number_for w from) from_name (number_for w to) to_name
            (option_map (λ e. e.0) (directory_entries w (number_for w to) to_name))))
            o.outcome;
      })
