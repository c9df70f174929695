-- What follows from the Ok of CREATE, MKDIR, SYMLINK and LINK.
-- Serves: granted_changes_pass_their_checks.
use Rattle.std.proofs.Common.{◌≡◌, ℕ, true, List, Option, None, Result, Ok, not, refl, sym, ap, subst, ◌∙◌}
use Rattle.std.specs.Prelude.{unwrap_or}
use Rattle.std.specs.Option.{option_map_or}
use Rattle.std.proofs.lemmas.Bool.{not-true}
use Rattle.nfs_spec.specs.nfs_items.Timeval.{Timeval}
use Rattle.nfs_spec.specs.nfs_items.Caller.{Caller}
use Rattle.nfs_spec.specs.nfs_items.declared.stat.Stat.{Stat}
use Rattle.nfs_spec.specs.nfs_items.declared.stat.Stat.TheVariants as stats
use Rattle.nfs_spec.specs.fs_spec.Listing.{entry_at}
use Rattle.nfs_spec.specs.fs_spec.Names.{is_name}
use Rattle.nfs_spec.specs.fs_spec.Files.{Body, Regular, Symlink, Directory, File, Files, is_directory}
use Rattle.nfs_spec.specs.fs_spec.Files.{directory_entries}
use Rattle.nfs_spec.specs.fs_spec.Changes.Edits.{with_name}
use Rattle.nfs_spec.specs.fs_spec.Changes.Limits.{has_room}
use Rattle.nfs_spec.specs.ProcedureChecks.{NumberedDir, file_of, dir_of, check, check_size, check_room}
use Rattle.nfs_spec.specs.ProcedureChecks.{check_edit, check_free, may_search, may_write}
use Rattle.nfs_spec.specs.Sattr.{GivenFields}
use Rattle.nfs_spec.specs.Changes.{touch, touch_ctime}
use Rattle.nfs_spec.specs.Procedures.{set_attributes, add_file, is_regular, create_over, create_new, create}
use Rattle.nfs_spec.specs.Procedures.{make, make_dir, symlink, link}
use Rattle.nfs_laws.specs.Steps.Granted.{IsFound, MakeOk, MakeDirOk, SymlinkOk, CreateOverOk, CreateNewOk}
use Rattle.nfs_laws.specs.Steps.Granted.{CreateOk, LinkOk, new_regular, new_directory, new_link}
use Rattle.nfs_laws.proofs.OfSteps.Steps.{bind_ok, check_ok, size_ok, file_ok, dir_ok, edit_ok, free_ok}
use Rattle.nfs_laws.proofs.OfSteps.Steps.{entry_found, same_answer, same_files}
use Rattle.nfs_laws.proofs.OfSteps.Setting.{set_ok}

-- room after an effect is room in the files that it left
in_room : (v after : Files) (u : Unit {0}) → after ≡ v → check_room v ≡ Ok u → has_room after ≡ true
in_room v after u same h = subst (λ x. has_room x ≡ true) (sym same) (check_ok (has_room v) stats.NoSpc u h)

-- a new file that needs Edit, a free name and room
pub make_ok : (w : Files) (who : Caller) (now : Timeval) (dir : ℕ) (name : List ℕ) (f : File) (number : ℕ)
    (after : Files) → make w who now dir name f ≡ Ok (number, after)
    → MakeOk w who now dir name f number after
make_ok w who now dir name f number after h =
    let d = bind_ok (dir_of w dir) _ (number, after) h in
    let e = bind_ok (check_edit who d.0 name) _ (number, after) d.2 in
    let r = bind_ok (check_free d.0 name) _ (number, after) e.2 in
    let s = bind_ok (check_room (add_file now w dir name f)) _ (number, after) r.2 in
    let found = dir_ok w dir d.0 d.1 in
    record {
      directory = edit_ok w who dir d.0 name e.0 found e.1;
      free = entry_found w dir d.0 found name ∙ free_ok d.0 name r.0 r.1;
      room = in_room (add_file now w dir name f) after s.0 (same_files s.2) s.1;
      is_next = same_answer s.2;
      effect = same_files s.2;
    }

-- MKDIR
pub make_dir_ok : (w : Files) (who : Caller) (now : Timeval) (dir : ℕ) (name : List ℕ) (a : GivenFields)
    (number : ℕ) (after : Files) → make_dir w who now dir name a ≡ Ok (number, after)
    → MakeDirOk w who now dir name a number after
make_dir_ok w who now dir name a number after h =
    make_ok w who now dir name (new_directory who now a) number after h

-- SYMLINK
pub symlink_ok : (w : Files) (who : Caller) (now : Timeval) (dir : ℕ) (name target : List ℕ) (number : ℕ)
    (after : Files) → symlink w who now dir name target ≡ Ok (number, after)
    → SymlinkOk w who now dir name target number after
symlink_ok w who now dir name target number after h =
    make_ok w who now dir name (new_link who now target) number after h

-- ---- CREATE

module _ (w : Files) (who : Caller) (now : Timeval) (dir : ℕ) (name : List ℕ) (a : GivenFields) (number : ℕ)
    (after : Files) where
  new_ok : (d : NumberedDir) → IsFound w dir d → is_name name ≡ true → may_search who d.file ≡ true
      → directory_entries w dir name ≡ None → create_new w who now d name a ≡ Ok (number, after)
      → CreateNewOk w who now dir name a number after
  new_ok d found named searched free h =
      let f = new_regular who now a in
      let p = bind_ok (check (may_write who d.file) stats.Acces) _ (number, after) h in
      let q = bind_ok (check_size (unwrap_or a.size 0)) _ (number, after) p.2 in
      let r = bind_ok (check_room (add_file now w d.number name f)) _ (number, after) q.2 in
      record {
        fits = size_ok (unwrap_or a.size 0) q.0 q.1;
        make = record {
          directory = record {
            file = d.file;
            there = found.there;
            directory = found.directory;
            named = named;
            searched = searched;
            written = check_ok (may_write who d.file) stats.Acces p.0 p.1;
          };
          free = free;
          room = in_room (add_file now w d.number name f) after r.0 (same_files r.2) r.1;
          is_next = same_answer r.2;
          effect = same_files r.2 ∙ ap (λ m. add_file now w m name f) found.number;
        };
      }

  over_ok : (n : ℕ) → create_over w who now a n ≡ Ok (number, after) → CreateOverOk w who now n a number after
  over_ok n h =
      let f = bind_ok (file_of w n) _ (number, after) h in
      let r = bind_ok (check (is_regular f.0.body) stats.Exist) _ (number, after) f.2 in
      let s = bind_ok (set_attributes w who now n a) _ (number, after) r.2 in
      let b = regular f.0.body (check_ok (is_regular f.0.body) stats.Exist r.0 r.1) in
      let set_again : set_attributes w who now n a ≡ Ok (tt, after) =
      s.1 ∙ ap (λ (v : Files). Ok (tt, v)) (sym (same_files s.2)) in
      record {
        file = f.0;
        bytes = b.0;
        there = file_ok w n f.0 f.1;
        regular = b.1;
        is_same = same_answer s.2;
        as_set_attributes = set_again;
        set = set_ok w who now n a after set_again;
      }
    where
      regular : (b : Body) → is_regular b ≡ true → (bytes : List ℕ) × (b ≡ Regular bytes)
      regular (Regular bytes) h = (bytes, refl)
      regular (Symlink target) h = absurd cc
      regular (Directory l) h = absurd cc

  -- what is left of CREATE when it may search
  abbrev end : NumberedDir → Option (ℕ × ℕ) → Result (ℕ × Files) Stat
  end d o = option_map_or (λ e. create_over w who now a e.0) o (create_new w who now d name a)

  -- CREATE
  pub create_ok : create w who now dir name a ≡ Ok (number, after)
      → CreateOk w who now dir name a number after
  create_ok h =
      let d = bind_ok (dir_of w dir) _ (number, after) h in
      let p = bind_ok (check (is_name name) stats.Acces) _ (number, after) d.2 in
      let q = bind_ok (check (may_search who d.0.file) stats.Acces) (λ _. end d.0 (entry_at d.0.listing name))
      (number, after) p.2 in
      let found = dir_ok w dir d.0 d.1 in
      let here = entry_found w dir d.0 found name in
      let named = check_ok (is_name name) stats.Acces p.0 p.1 in
      let searched = check_ok (may_search who d.0.file) stats.Acces q.0 q.1 in
      record {
        file = d.0.file;
        there = found.there;
        directory = found.directory;
        named = named;
        searched = searched;
        fresh = λ free. new_ok d.0 found named searched free (ap (end d.0) (sym (sym here ∙ free)) ∙ q.2);
        over = λ n c at. over_ok n (ap (end d.0) (sym (sym here ∙ at)) ∙ q.2);
      }

-- LINK
pub link_ok : (w : Files) (who : Caller) (now : Timeval) (from dir : ℕ) (name : List ℕ) (after : Files)
    → link w who now from dir name ≡ Ok (tt, after) → LinkOk w who now from dir name after
link_ok w who now from dir name after h =
    let linked = touch now (with_name (touch_ctime now w from) dir name from) dir in
    let f = bind_ok (file_of w from) _ (tt, after) h in
    let p = bind_ok (check (not (is_directory f.0.body)) stats.IsDir) _ (tt, after) f.2 in
    let d = bind_ok (dir_of w dir) _ (tt, after) p.2 in
    let e = bind_ok (check_edit who d.0 name) _ (tt, after) d.2 in
    let r = bind_ok (check_free d.0 name) _ (tt, after) e.2 in
    let s = bind_ok (check_room linked) _ (tt, after) r.2 in
    let found = dir_ok w dir d.0 d.1 in
    record {
      file = f.0;
      there = file_ok w from f.0 f.1;
      plain = not-true (is_directory f.0.body) (check_ok (not (is_directory f.0.body)) stats.IsDir p.0 p.1);
      directory = edit_ok w who dir d.0 name e.0 found e.1;
      free = entry_found w dir d.0 found name ∙ free_ok d.0 name r.0 r.1;
      room = in_room linked after s.0 (same_files s.2) s.1;
      effect = same_files s.2;
    }
