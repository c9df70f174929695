-- SETATTR, WRITE and CREATE leave a tree a tree.
-- Serves: trees_stay_trees, nothing_is_given_again and no_limit_is_passed.
use Rattle.std.proofs.Common.{◌≡◌, ◌≢◌, ℕ, ◌≤◌, Bool, true, false, List, [], length, Option, Some, None, refl}
use Rattle.std.proofs.Common.{sym, ap, subst, ◌∙◌, arith}
use Rattle.std.specs.Prelude.{◌==◌, if◌then◌else◌}
use Rattle.nfs_spec.specs.nfs_items.Timeval.{Timeval}
use Rattle.nfs_spec.specs.nfs_items.Caller.{Caller}
use Rattle.nfs_spec.specs.fs_spec.Listing.{Listing}
use Rattle.nfs_spec.specs.fs_spec.Files.{File, Files, file_at, listing_in, is_directory, directory_entries}
use Rattle.nfs_spec.specs.fs_spec.Trees.{IsTime, IsFile, IsFileTree}
use Rattle.nfs_spec.proofs.fs_spec.Walks.{some_same}
use Rattle.nfs_spec.specs.fs_spec.Changes.Edits.{with_changed_file}
use Rattle.nfs_spec.specs.fs_spec.Changes.Limits.{has_room}
use Rattle.nfs_spec.proofs.fs_spec.OfEditedTrees.SameShape.{stays_shaped}
use Rattle.nfs_spec.proofs.fs_spec.OfChanges.Room.{same_smaller, changed_no_more, still_room}
use Rattle.nfs_spec.proofs.fs_spec.OfChanges.Shapes.{IsSameShape, same_shape, changed_files}
use Rattle.nfs_spec.specs.Sattr.{GivenFields}
use Rattle.nfs_spec.specs.Changes.{body_with_length, apply_fields}
use Rattle.nfs_spec.specs.Procedures.{with_bytes_written}
use Rattle.nfs_laws.specs.Steps.Granted.{SetOk, WriteOk, CreateOk, new_regular}
use Rattle.nfs_laws.specs.Trees.Anew.{Follows}
use Rattle.nfs_laws.proofs.OfTrees.GivenAnew.{nothing_given, same_given, cookie_changed}
use Rattle.nfs_laws.proofs.OfTrees.Making.{make_follows}
use Rattle.nfs_laws.specs.Laws.{AreValidFields}
use Rattle.nfs_laws.proofs.FilesFit.{set_lists, set_keeps, resized_fits, set_fits, rewritten_fits}
use Rattle.nfs_laws.proofs.FilesFit.{regular_fits}

-- files follow themselves
pub unchanged : (w : Files) → IsFileTree w → Follows w w
unchanged w tree = record { tree = tree; anew = nothing_given w; room = λ h. h }

-- a change of one file that leaves its kind and what it lists
record IsQuiet (w : Files) (n : ℕ) (f : File) (change : File → File) : Type 0 where
  there : file_at w n ≡ Some f
  lists : listing_in (change f).body ≡ listing_in f.body
  keeps : is_directory (change f).body ≡ is_directory f.body
  fits : IsFile (change f)
  room : has_room w ≡ true → has_room (with_changed_file w n change) ≡ true

module _ (w : Files) (tree : IsFileTree w) (n : ℕ) (f : File) (change : File → File)
    (quiet : IsQuiet w n f change) where
  -- what holds of the file holds of each that is found there
  at_own : (P : File → Type 0) → P f → (g : File) → file_at w n ≡ Some g → P g
  at_own P own g there = subst P (some_same (sym quiet.there ∙ there)) own

  shaped : IsSameShape w (with_changed_file w n change)
  shaped = same_shape w n change
      (at_own (λ g. listing_in (change g).body ≡ listing_in g.body) quiet.lists)
      (at_own (λ g. is_directory (change g).body ≡ is_directory g.body) quiet.keeps)

  quiet_follows : Follows w (with_changed_file w n change)
  quiet_follows = record {
    tree = stays_shaped w (with_changed_file w n change) tree shaped
        (changed_files w n change tree.files (at_own (λ g. IsFile (change g)) quiet.fits));
    anew = same_given w (with_changed_file w n change) shaped
        (cookie_changed w n change (at_own (λ g. (listing_in g.body).next ≤ (listing_in (change g).body).next)
        (let same = ap (λ (l : Listing). l.next) quiet.lists in omega (arith, same))));
    room = quiet.room;
  }

module _ (now : Timeval) (time : IsTime now) (w : Files) (tree : IsFileTree w) (who : Caller) where
  -- SETATTR
  pub set_follows : (n : ℕ) (a : GivenFields) → AreValidFields a → (after : Files) → SetOk w who now n a after
      → Follows w after
  set_follows n a is after o =
      let fits = tree.files n o.file o.there in
      subst (Follows w) (sym o.effect) (quiet_follows w tree n o.file (apply_fields now a) (record {
        there = o.there;
        lists = set_lists a.size o.file.body;
        keeps = set_keeps a.size o.file.body;
        fits = set_fits now time a is o.file fits (resized_fits who o.file a.size o.resize fits.body);
        room = in_room a.size refl;
      }))
    where
      in_room : (size : Option ℕ) → a.size ≡ size → has_room w ≡ true
          → has_room (with_changed_file w n (apply_fields now a)) ≡ true
      in_room (Some size) e = λ _. subst (λ v. has_room v ≡ true) o.effect (o.room size e)
      in_room None e = still_room w (with_changed_file w n (apply_fields now a))
          (changed_no_more w n (apply_fields now a)
          (λ f. same_smaller f (apply_fields now a f) (ap (λ size. body_with_length size f.body) e)))

  -- WRITE
  pub write_follows : (n offset : ℕ) (new : List ℕ) (after : Files) → WriteOk w who now n offset new after
      → Follows w after
  write_follows n offset new after o = subst (Follows w) (sym o.effect) (by (length new == 0) refl)
    where
      changed : Files
      changed = with_changed_file w n (with_bytes_written now offset new o.old)

      tf : true ≡ false → ⊥
      tf h = cc

      by : (none : Bool) → (length new == 0) ≡ none → Follows w (if none then w else changed)
      by true e = unchanged w tree
      by false e =
          let some : new ≢ [] = λ is. tf (sym (ap (λ (bytes : List ℕ). length bytes == 0) is) ∙ e) in
          quiet_follows w tree n o.file (with_bytes_written now offset new o.old) (record {
            there = o.there;
            lists = sym (ap listing_in o.regular);
            keeps = sym (ap is_directory o.regular);
            fits = rewritten_fits now time offset new o.old o.file o.regular (tree.files n o.file o.there)
                (o.fits some);
            room = λ _. subst (λ v. has_room v ≡ true) (o.effect ∙ ap (λ none. if none then w else changed) e)
                (o.room some);
          })

  -- CREATE, of a new name or of one that is there
  pub create_follows : (dir : ℕ) (name : List ℕ) → length name ≤ 255 → (a : GivenFields) → AreValidFields a
      → (number : ℕ) (after : Files) → CreateOk w who now dir name a number after → Follows w after
  create_follows dir name bound a is number after o = by (directory_entries w dir name) refl
    where
      by : (p : Option (ℕ × ℕ)) → directory_entries w dir name ≡ p → Follows w after
      by None e =
          let new = o.fresh e in
          make_follows now time w tree who dir name bound (new_regular who now a) refl
          (regular_fits who now time a is new.fits) number after new.make
      by (Some p) e = set_follows p.0 a is after (o.over p.0 p.1 e).set
