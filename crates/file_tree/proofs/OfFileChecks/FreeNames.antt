-- MKDIR, SYMLINK and LINK, told by the free name that they ask for.
-- Serves: `check_make`, `check_link`.
use Rattle.std.proofs.Common.{◌≡◌, ℕ, ◌≤◌, true, false, List, [], not, None, Some, Result, Ok, Err, refl, ap}
use Rattle.std.proofs.Common.{subst, ◌∙◌}
use Rattle.std.specs.Prelude.{◌↔◌}
use Rattle.nfs_spec.specs.nfs_items.Timeval.{Timeval}
use Rattle.nfs_spec.specs.nfs_items.Caller.{Caller}
use Rattle.nfs_spec.specs.nfs_items.declared.stat.Stat.{Stat}
use Rattle.nfs_spec.specs.nfs_items.declared.stat.Stat.TheVariants as stats
use Rattle.nfs_spec.specs.fs_spec.Listing.{Listing}
use Rattle.nfs_spec.specs.fs_spec.Files.{File, Files, file_at, listing_in, is_directory, directory_entries}
use Rattle.nfs_spec.specs.fs_spec.Trees.{IsFileTree}
use Rattle.nfs_spec.specs.fs_spec.Changes.Edits.{with_name}
use Rattle.nfs_spec.specs.fs_spec.Changes.Limits.{has_room, blocks_in}
use Rattle.nfs_spec.specs.ProcedureChecks.{◌>>=◌, NumberedDir, ok_or, dir_of, check, check_room, check_edit}
use Rattle.nfs_spec.specs.ProcedureChecks.{check_free}
use Rattle.nfs_spec.specs.Changes.{touch, touch_ctime}
use Rattle.nfs_spec.specs.Procedures.{add_file, make, link}
use Rattle.inode_table.specs.nfs_laws.Steps.Granted.{IsFound}
use Rattle.inode_table.proofs.nfs_laws.OfSteps.Steps.{bind_ok, dir_ok, entry_found, free_ok, ok_same}
use Rattle.inode_table.specs.nfs_laws.Room.{HasRoomToMake, HasRoomToLink}
use Rattle.inode_table.proofs.nfs_laws.RoomBefore.{to_make, to_link}
use Rattle.file_tree.specs.FileChecks.Decides.{Decides, IsCheckOf}
use Rattle.file_tree.specs.FileChecks.FreeNames.{free_name}
use Rattle.file_tree.proofs.OfFileChecks.Steps.{passes, stops, told, decides}

module _ (w : Files) (who : Caller) (dir : ℕ) (name : List ℕ) where
  -- what follows a free name does not ask which it is
  then : {B : Type 0} (k : Result B Stat)
      → (dir_of w dir >>= λ d. check_edit who d name >>= λ _. check_free d name >>= λ _. k)
      ≡ (free_name w who dir name >>= λ _. k)
  then {B} k = by (dir_of w dir)
    where
      freed : (d : NumberedDir) (r s : Result (Unit {0}) Stat)
          → (r >>= λ _. s >>= λ _. k) ≡ ((r >>= λ _. s >>= λ _. Ok d.listing) >>= λ _. k)
      freed d (Err e) s = refl
      freed d (Ok u) (Err e) = refl
      freed d (Ok u) (Ok v) = refl

      by : (r : Result NumberedDir Stat)
          → (r >>= λ d. check_edit who d name >>= λ _. check_free d name >>= λ _. k)
          ≡ ((r >>= λ d. check_edit who d name >>= λ _. check_free d name >>= λ _. Ok d.listing) >>= λ _. k)
      by (Err e) = refl
      by (Ok d) = freed d (check_edit who d name) (check_free d name)

  -- a free name is in a directory that is there
  pub record IsFree (l : Listing) : Type 0 where
    -- the directory
    pub dir_found : NumberedDir
    -- it is the one of the number
    pub found : IsFound w dir dir_found
    -- it lists what was found
    pub listing : dir_found.listing ≡ l
    -- nothing has the name
    pub free : directory_entries w dir name ≡ None

  free_name_ok : (l : Listing) → free_name w who dir name ≡ Ok l → IsFree l
  free_name_ok l h =
      let d = bind_ok (dir_of w dir) _ l h in
      let e = bind_ok (check_edit who d.0 name) _ l d.2 in
      let r = bind_ok (check_free d.0 name) _ l e.2 in
      let found = dir_ok w dir d.0 d.1 in
      record {
        dir_found = d.0;
        found = found;
        listing = ok_same r.2;
        free = entry_found w dir d.0 found name
            ∙ free_ok d.0 name r.0 r.1;
      }

  module _ (now : Timeval) where
    -- MKDIR and SYMLINK
    module _ (f : File) where
      abbrev made : Files
      made = add_file now w dir name f

      make_left : make w who now dir name f
          ≡ (free_name w who dir name >>= λ _. check_room made >>= λ _. Ok (w.next, made))
      make_left = then (check_room made >>= λ _. Ok (w.next, made))

      -- where the name is refused, the call is
      pub make_refused : (e : Stat) → free_name w who dir name ≡ Err e → make w who now dir name f ≡ Err e
      make_refused e is = make_left ∙ stops (free_name w who dir name) e _ is

      -- where the name is free, room decides
      pub make_decided : IsFileTree w → has_room w ≡ true → (l : Listing) → free_name w who dir name ≡ Ok l
          → (listing_in f.body).entries ≡ [] → (listing_in f.body).next ≤ 4294967295
          → (blocks : ℕ) → blocks_in f.body ≡ blocks
          → (r : Result (Unit {0}) Stat) → IsCheckOf (HasRoomToMake w l.next blocks) stats.NoSpc r
          → Decides (make w who now dir name f) r
      make_decided tree before l is empty low blocks same r asked =
          decides (make w who now dir name f) r (w.next, made) (make_left
          ∙ passes (free_name w who dir name) l _ _ is
          (ap (λ r. r >>= λ _. Ok (w.next, made)) (told (has_room made) stats.NoSpc r room asked)))
        where
          p : IsFree l
          p = free_name_ok l is

          room : (has_room made ≡ true) ↔ HasRoomToMake w l.next blocks
          room =
              let next : (listing_in p.dir_found.file.body).next ≡ l.next =
              ap (λ (l : Listing). l.next) (p.found.listing ∙ p.listing) in
              subst (λ n. (has_room made ≡ true) ↔ HasRoomToMake w n blocks) next
              (subst (λ b. (has_room made ≡ true) ↔ HasRoomToMake w (listing_in p.dir_found.file.body).next b)
              same
              (to_make now w tree before dir name p.dir_found.file p.found.there p.found.directory p.free f
              empty low))

    -- LINK
    module _ (from : ℕ) (f : File) (there : file_at w from ≡ Some f)
        (plain : is_directory f.body ≡ false) where
      abbrev linked : Files
      linked = touch now (with_name (touch_ctime now w from) dir name from) dir

      link_left : link w who now from dir name
          ≡ (free_name w who dir name >>= λ _. check_room linked >>= λ _. Ok (tt, linked))
      link_left =
          passes (ok_or stats.Stale (file_at w from)) f _ _ (ap (ok_or stats.Stale) there)
          (passes (check (not (is_directory f.body)) stats.IsDir) tt _ _
          (ap (λ b. check (not b) stats.IsDir) plain)
          (then (check_room linked >>= λ _. Ok (tt, linked))))

      -- where the name is refused, the call is
      pub link_refused : (e : Stat) → free_name w who dir name ≡ Err e → link w who now from dir name ≡ Err e
      link_refused e is = link_left ∙ stops (free_name w who dir name) e _ is

      -- where the name is free, room decides
      pub link_decided : has_room w ≡ true → (l : Listing) → free_name w who dir name ≡ Ok l
          → (r : Result (Unit {0}) Stat) → IsCheckOf (HasRoomToLink w l.next) stats.NoSpc r
          → Decides (link w who now from dir name) r
      link_decided before l is r asked =
          decides (link w who now from dir name) r (tt, linked) (link_left
          ∙ passes (free_name w who dir name) l _ _ is
          (ap (λ r. r >>= λ _. Ok (tt, linked)) (told (has_room linked) stats.NoSpc r room asked)))
        where
          p : IsFree l
          p = free_name_ok l is

          room : (has_room linked ≡ true) ↔ HasRoomToLink w l.next
          room =
              let next : (listing_in p.dir_found.file.body).next ≡ l.next =
              ap (λ (l : Listing). l.next) (p.found.listing ∙ p.listing) in
              subst (λ n. (has_room linked ≡ true) ↔ HasRoomToLink w n) next
              (to_link now w before dir name p.dir_found.file p.found.there p.found.directory p.free from)
