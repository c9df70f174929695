-- CREATE, told by the directory and what stands at the name.
-- Serves: `find_to_create`.
use Rattle.std.proofs.Common.{◌≡◌, ℕ, ◌+◌, ◌-◌, ◌/◌, Bool, true, false, List, length, replicate, Option, Some}
use Rattle.std.proofs.Common.{None, Result, Ok, Err, option_and_then, refl, sym, ap, subst, ◌∙◌, arith}
use Rattle.std.specs.Prelude.{◌↔◌, unwrap_or}
use Rattle.std.specs.Option.{option_map_or}
use Rattle.std.proofs.lemmas.List.{length-replicate}
use Rattle.nfs_spec.specs.nfs_items.Timeval.{Timeval}
use Rattle.nfs_spec.specs.nfs_items.Caller.{Caller}
use Rattle.nfs_spec.specs.nfs_items.declared.stat.Stat.{Stat}
use Rattle.nfs_spec.specs.nfs_items.declared.stat.Stat.TheVariants as stats
use Rattle.nfs_spec.specs.fs_spec.Listing.{Listing, entry_at}
use Rattle.nfs_spec.specs.fs_spec.Names.{is_name}
use Rattle.nfs_spec.specs.fs_spec.Files.{Body, Regular, File, Files, file_at, listing_in, directory_entries}
use Rattle.nfs_spec.specs.fs_spec.Trees.{IsFileTree}
use Rattle.nfs_spec.specs.fs_spec.Changes.Limits.{has_room, blocks_in}
use Rattle.nfs_spec.specs.ProcedureChecks.{◌>>=◌, NumberedDir, ok_or, listing_or, file_of, dir_of, check}
use Rattle.nfs_spec.specs.ProcedureChecks.{check_size, check_room, may_search, may_write}
use Rattle.nfs_spec.specs.Sattr.{GivenFields}
use Rattle.nfs_spec.specs.Procedures.{set_attributes, is_regular, add_file, create_over, create_new, create}
use Rattle.inode_table.specs.nfs_laws.Steps.Granted.{new_regular}
use Rattle.inode_table.proofs.nfs_laws.OfSteps.Steps.{directory_ok}
use Rattle.inode_table.specs.nfs_laws.Room.{HasRoomToMake}
use Rattle.inode_table.proofs.nfs_laws.RoomBefore.{to_make}
use Rattle.file_tree.specs.FileChecks.Decides.{Decides}
use Rattle.file_tree.specs.FileChecks.Creates.{regular_number, check_new, DecidesCreate}
use Rattle.file_tree.proofs.OfFileChecks.Steps.{passes, decides}

module _ (w : Files) (who : Caller) (now : Timeval) (dir : ℕ) (name : List ℕ) (a : GivenFields) (f : File)
    (there : file_at w dir ≡ Some f) (l : Listing) (lists : listing_or stats.NotDir f.body ≡ Ok l) where
  abbrev d : NumberedDir
  d = record { number = dir; file = f; listing = l }

  -- what is left of CREATE in the directory
  abbrev end : Option (ℕ × ℕ) → Result (ℕ × Files) Stat
  end o = option_map_or (λ e. create_over w who now a e.0) o (create_new w who now d name a)

  found : dir_of w dir ≡ Ok d
  found = passes (ok_or stats.Stale (file_at w dir)) f _ _ (ap (ok_or stats.Stale) there)
      (passes (listing_or stats.NotDir f.body) l _ _ lists refl)

  at_name : directory_entries w dir name ≡ entry_at l name
  at_name = ap (option_and_then (λ f. entry_at (listing_in f.body) name)) there
      ∙ ap (λ l. entry_at l name) (directory_ok stats.NotDir f.body l lists).1

  module _ (named : is_name name ≡ true) (searched : may_search who f ≡ true) where
    left : create w who now dir name a ≡ end (entry_at l name)
    left = passes (dir_of w dir) d _ _ found
        (passes (check (is_name name) stats.Acces) tt _ _ (ap (λ b. check b stats.Acces) named)
        (passes (check (may_search who f) stats.Acces) tt _ _ (ap (λ b. check b stats.Acces) searched) refl))

    -- a name that is there
    pub over : (n c : ℕ) → Some (n, c) ≡ entry_at l name → (r : Result (Option ℕ) Stat)
        → r ≡ regular_number w n
        → DecidesCreate w who now dir name a r
    over n c here r is =
        subst (DecidesCreate w who now dir name a) (sym is) (by (file_of w n) (left ∙ ap end (sym here)))
      where
        set : Result (ℕ × Files) Stat
        set = set_attributes w who now n a >>= λ after. Ok (n, after.1)

        by : (o : Result File Stat)
            → create w who now dir name a ≡ (o >>= λ g. check (is_regular g.body) stats.Exist >>= λ _.
            set_attributes w who now n a >>= λ after. Ok (n, after.1))
            → DecidesCreate w who now dir name a
            (o >>= λ g. check (is_regular g.body) stats.Exist >>= λ _. Ok (Some n))
        by (Err e) does = does
        by (Ok g) does = elim (is_regular g.body) as (λ b.
            create w who now dir name a ≡ (check b stats.Exist >>= λ _.
            set_attributes w who now n a >>= λ after. Ok (n, after.1))
            → DecidesCreate w who now dir name a (check b stats.Exist >>= λ _. Ok (Some n))) [
              | true ↦ λ does. ((c, at_name ∙ sym here), does)
              | false ↦ λ does. does
            ] does

    -- a free name
    module _ (none : None ≡ entry_at l name) where
      -- nothing stands at it
      pub free : directory_entries w dir name ≡ None
      free = at_name ∙ sym none

      abbrev made : Files
      made = add_file now w dir name (new_regular who now a)

      then : (r s t : Result (Unit {0}) Stat) (x : ℕ × Files)
          → (r >>= λ _. s >>= λ _. t >>= λ _. Ok x) ≡ ((r >>= λ _. s >>= λ _. t) >>= λ _. Ok x)
      then (Err e) s t x = refl
      then (Ok u) (Err e) t x = refl
      then (Ok u) (Ok v) t x = refl

      -- its check decides CREATE
      pub new : IsFileTree w → has_room w ≡ true → (size : ℕ) → size ≡ unwrap_or a.size 0
          → (r : Result (Unit {0}) Stat)
          → ((b : Bool) → (b ≡ true) ↔ HasRoomToMake w l.next ((size + 512 - 1) / 512)
          → r ≡ check_new who f size b)
          → Decides (create w who now dir name a) r
      new tree before size is r asked =
          decides (create w who now dir name a) r (w.next, made) (left ∙ ap end (sym none)
          ∙ then (check (may_write who f) stats.Acces) (check_size (unwrap_or a.size 0)) (check_room made)
          (w.next, made)
          ∙ ap (λ r. r >>= λ _. Ok (w.next, made)) (
          ap (λ size. check_new who f size (has_room made)) (sym is)
          ∙ sym (asked (has_room made) room)))
        where
          b : Body
          b = Regular (replicate (unwrap_or a.size 0) 0)

          blocks : blocks_in (new_regular who now a).body ≡ (size + 512 - 1) / 512
          blocks = let same : length (replicate (unwrap_or a.size 0) 0) + 511 ≡ size + 512 - 1 =
              omega (arith, length-replicate {A = ℕ} (unwrap_or a.size 0) 0, is) in
              ap (λ (n : ℕ). n / 512) same

          room : (has_room made ≡ true) ↔ HasRoomToMake w l.next ((size + 512 - 1) / 512)
          room =
              let own = directory_ok stats.NotDir f.body l lists in
              subst (λ n. (has_room made ≡ true) ↔ HasRoomToMake w n ((size + 512 - 1) / 512))
              (ap (λ (l : Listing). l.next) own.1)
              (subst (λ b. (has_room made ≡ true) ↔ HasRoomToMake w (listing_in f.body).next b) blocks
              (to_make now w tree before dir name f there own.0 free (new_regular who now a) refl
              (omega arith)))
