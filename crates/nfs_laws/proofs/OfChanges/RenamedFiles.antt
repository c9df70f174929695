-- What becomes of the files that RENAME names: step by step, from what stands at the new name to both
-- directories.
-- Serves: renaming_keeps_the_rest (changes); calls_change_what_they_name (frames).
use Rattle.std.proofs.Common.{◌≡◌, ◌≢◌, ℕ, zero, suc, Bool, true, false, List, [], ◌∷◌, ◌++◌, Option, Some}
use Rattle.std.proofs.Common.{None, eqb, option_map, append-nil, refl, sym, ap, subst, ◌∙◌, eq-eqb}
use Rattle.std.specs.Prelude.{◌&&◌, ◌||◌}
use Rattle.nfs_spec.specs.nfs_items.Timeval.{Timeval}
use Rattle.nfs_spec.specs.nfs_items.Caller.{Caller}
use Rattle.nfs_spec.specs.fs_spec.Listing.{Listing, entry_at, with_entry, without_entry, HasDistinctNames}
use Rattle.nfs_spec.specs.fs_spec.Paths.{path_at}
use Rattle.nfs_spec.specs.fs_spec.Files.{Directory, File, Files, file_at, is_directory, directory_entries}
use Rattle.nfs_spec.specs.fs_spec.Files.{parent_of}
use Rattle.nfs_spec.specs.fs_spec.Files.{names_of}
use Rattle.nfs_spec.specs.fs_spec.Trees.{IsFileTree}
use Rattle.nfs_spec.proofs.fs_spec.Walks.{some_same, step_last}
use Rattle.nfs_spec.proofs.fs_spec.OnePath.{one_path}
use Rattle.nfs_spec.specs.fs_spec.Changes.Edits.{with_name, without_name, map_listing}
use Rattle.nfs_spec.specs.fs_spec.Changes.Limits.{file_count}
use Rattle.nfs_spec.proofs.fs_spec.OfChanges.Finite.{changed_here, changed_other, gone_other}
use Rattle.nfs_spec.proofs.fs_spec.OfEditedTrees.PathChanges.{no_return}
use Rattle.nfs_spec.specs.Changes.{touch, with_mtime, touch_ctime, with_ctime, unlink, after_unlink}
use Rattle.nfs_spec.specs.Procedures.{climbs_to, is_above, unlink_target}
use Rattle.nfs_laws.proofs.OfTrees.FilesFit.{dir_file}
use Rattle.nfs_laws.specs.Changes.Changed.{Becomes, ChangesCtime, IsTouched, LosesName, Moves}
use Rattle.nfs_laws.specs.Steps.Granted.{RenameOk, MoveOk}
use Rattle.nfs_laws.proofs.OfChanges.OtherFiles.{unnamed_other, moved_apart, before_mark}
use Rattle.nfs_laws.proofs.OfChanges.DirectoryEntries.{without_free, with_without, IsAt, listing_of}
use Rattle.nfs_laws.proofs.OfChanges.DirectoryEntries.{begins_at, at_same, at_other, at_relisted, at_touched}
use Rattle.nfs_laws.proofs.OfChanges.DirectoryEntries.{becomes_touched, becomes_marked}
use Rattle.nfs_laws.proofs.OfChanges.NamedFiles.{entry_here, lists_none, distinct_in, loses}

module _ (w : Files) (who : Caller) (now : Timeval) (tree : IsFileTree w) where
  -- a directory does not list itself
  lists_other : (d : ℕ) (x : List ℕ) (n c : ℕ) → directory_entries w d x ≡ Some (n, c) → n ≢ d
  lists_other d x n c at e =
      let is = tree.tree.lists d x n c at in
      let p = tree.tree.reached d is in
      no_return p.0 [] [] x (one_path w tree p.0 ((p.0 ++ x ∷ []) ++ []) d p.1 c is p.2
      (ap (path_at (directory_entries w)) (append-nil (p.0 ++ x ∷ []))
      ∙ step_last (directory_entries w) p.0 x d p.1 p.2 ∙ at ∙ ap (λ m. Some (m, c)) e))

  -- each is above itself
  climbs : (k n : ℕ) → climbs_to k w n n ≡ true
  climbs zero n = eq-eqb n n refl
  climbs (suc k) n = ap (λ b. b || climbs_to k w n (parent_of w n)) (eq-eqb n n refl)

  module _ (from : ℕ) (from_name : List ℕ) (to : ℕ) (to_name : List ℕ) (w' : Files)
      (o : RenameOk w who now from from_name to to_name w')
      (m : MoveOk w now from from_name to to_name o.number o.file w') where
    t : Option ℕ
    t = option_map (λ e. e.0) (directory_entries w to to_name)

    w₁ : Files
    unfolding t
    w₁ = unlink_target now w to to_name t

    w₂ : Files
    unfolding w₁
    w₂ = without_name w₁ from from_name

    w₃ : Files
    unfolding w₂
    w₃ = with_name w₂ to to_name o.number

    w₄ : Files
    unfolding w₃
    w₄ = touch_ctime now w₃ o.number

    w₅ : Files
    unfolding w₄
    w₅ = touch now w₄ from

    after : Files
    unfolding w₅
    after = touch now w₅ to

    after_is : w' ≡ after
    unfolding t w₁ w₂ w₃ w₄ w₅ after
    after_is = m.effect

    number_from : o.number ≢ from
    number_from = lists_other from from_name o.number o.cookie o.is_named

    number_to : o.number ≢ to
    number_to e = tf (sym (climbs (file_count w) to) ∙ ap (λ m. is_above w m to) (sym e) ∙ low)
      where
        tf : true ≡ false → ⊥
        tf h = cc

        directory : is_directory o.file.body ≡ true
        directory = ap (λ (f : File). is_directory f.body)
            (some_same (sym o.there ∙ ap (file_at w) e ∙ o.target.there)) ∙ o.target.directory

        low : is_above w o.number to ≡ false
        low = sym (ap (λ b. b && is_above w o.number to) directory) ∙ m.not_above

    module _ (k c : ℕ) (at : directory_entries w to to_name ≡ Some (k, c)) where
      target_to : k ≢ to
      target_to = let g = m.replaces k c at in
          lists_none w who now k to g.other g.there g.empty to_name (k, c) at

      target_from : k ≢ from
      target_from = let g = m.replaces k c at in
          lists_none w who now k from g.other g.there g.empty from_name (o.number, o.cookie) o.is_named

      target_number : k ≢ o.number
      target_number e = m.other c (at ∙ ap (λ m. Some (m, c)) e)

    -- what is neither to nor the target is as it was until the entry moves
    cleared_same : (m : ℕ) → m ≢ to → ((k c : ℕ) → directory_entries w to to_name ≡ Some (k, c) → m ≢ k)
        → file_at w₁ m ≡ file_at w m
    unfolding t w₁
    cleared_same m ne not = by (directory_entries w to to_name) refl
      where
        by : (p : Option (ℕ × ℕ)) → directory_entries w to to_name ≡ p
            → file_at (unlink_target now w to to_name (option_map (λ e. e.0) p)) m ≡ file_at w m
        by None is = refl
        by (Some e) is = unnamed_other now w to to_name e.0 m ne (not e.0 e.1 is)

    -- the to directory, with nothing at the new name
    to_listing : (l : Listing) × (o.target.file.body ≡ Directory l)
    to_listing = listing_of o.target.file.body o.target.directory

    to_distinct : HasDistinctNames to_listing.0.entries
    to_distinct = distinct_in w who now tree to o.target.file to_listing.0 o.target.there to_listing.1

    record IsClear (v : Files) (l : Listing) : Type 0 where
      at : IsAt v to o.target.file o.target.file.mtime o.target.file.ctime l
      is : l ≡ without_entry to_listing.0 to_name

    clear : (l : Listing) × IsClear w₁ l
    unfolding t w₁
    clear = by (directory_entries w to to_name) refl
      where
        begin : IsAt w to o.target.file o.target.file.mtime o.target.file.ctime to_listing.0
        begin = begins_at w to o.target.file to_listing.0 o.target.there to_listing.1

        kept : (k : ℕ) → k ≢ to → (b : Bool)
            → file_at (after_unlink b now (without_name w to to_name) k) to
            ≡ file_at (without_name w to to_name) to
        kept k apart true = gone_other (without_name w to to_name) k to (λ e. apart (sym e))
        kept k apart false =
            changed_other (without_name w to to_name) k (with_ctime now) to (λ e. apart (sym e))

        by : (p : Option (ℕ × ℕ)) → directory_entries w to to_name ≡ p
            → (l : Listing) × IsClear (unlink_target now w to to_name (option_map (λ e. e.0) p)) l
        by None is =
            let free : entry_at to_listing.0 to_name ≡ None =
            sym (entry_here w who now to o.target.file to_listing.0 o.target.there to_listing.1 to_name)
            ∙ is in
            (to_listing.0, record { at = begin; is = sym (without_free to_listing.0 to_name free) })
        by (Some e) is =
            let less_at =
            at_relisted w to o.target.file o.target.file.mtime o.target.file.ctime to_listing.0 begin
            (λ m. without_entry m to_name) in (
              without_entry to_listing.0 to_name,
              record {
                at = at_same
                    (without_name w to to_name) to o.target.file o.target.file.mtime o.target.file.ctime
                    (without_entry to_listing.0 to_name) less_at (unlink now w to to_name e.0)
                    (kept e.0 (target_to e.0 e.1 is) (eqb (names_of (without_name w to to_name) e.0) 0));
                is = refl;
              },
            )

    -- ---- the directories

    -- the to directory, where the other is another
    apart_to : from ≢ to → Becomes w after to (IsTouched now (λ l. with_entry l to_name o.number))
    unfolding w₂ w₃ w₄ w₅ after
    apart_to ne =
        let f = o.target.file in
        let l₁ = clear.0 in
        let l₂ = with_entry l₁ to_name o.number in
        let a₂ = at_other w₁ to f f.mtime f.ctime l₁ clear.1.at from
        (map_listing (λ m. without_entry m from_name)) (λ e. ne (sym e)) in
        let a₃ = at_relisted w₂ to f f.mtime f.ctime l₁ a₂ (λ m. with_entry m to_name o.number) in
        let a₄ = at_other w₃ to f f.mtime f.ctime l₂ a₃ o.number (with_ctime now) (λ e. number_to (sym e)) in
        let a₅ = at_other w₄ to f f.mtime f.ctime l₂ a₄ from (with_mtime now) (λ e. ne (sym e)) in
        becomes_touched now w after to f to_listing.0 l₂
        (λ l. with_entry l to_name o.number) o.target.there to_listing.1
        (at_touched w₅ to f f.mtime f.ctime l₂ a₅ now)
        (ap (λ l. with_entry l to_name o.number) clear.1.is
        ∙ with_without to_listing.0 to_name o.number to_distinct)

    -- the from directory, where the other is another
    apart_from : from ≢ to → Becomes w after from (IsTouched now (λ l. without_entry l from_name))
    unfolding w₂ w₃ w₄ w₅ after
    apart_from ne =
        let df = dir_file w from (tree.tree.lists from from_name o.number o.cookie o.is_named) in
        let l = listing_of df.0.body df.2 in
        let l₁ = without_entry l.0 from_name in
        let a₁ = at_same w from df.0 df.0.mtime df.0.ctime l.0 (begins_at w from df.0 l.0 df.1 l.1) w₁
        (cleared_same from ne (λ k c at e. target_from k c at (sym e))) in
        let a₂ = at_relisted w₁ from df.0 df.0.mtime df.0.ctime l.0 a₁ (λ m. without_entry m from_name) in
        let a₃ = at_other w₂ from df.0 df.0.mtime df.0.ctime l₁ a₂ to
        (map_listing (λ m. with_entry m to_name o.number)) ne in
        let a₄ = at_other w₃ from df.0 df.0.mtime df.0.ctime l₁ a₃ o.number (with_ctime now)
        (λ e. number_from (sym e)) in
        let a₅ = at_touched w₄ from df.0 df.0.mtime df.0.ctime l₁ a₄ now in
        becomes_touched now w after from df.0 l.0 l₁ (λ m. without_entry m from_name) df.1 l.1
        (at_other w₅ from df.0 now now l₁ a₅ to (with_mtime now) ne) refl

    -- both, where they are one
    within_to : from ≡ to → Becomes w after to
        (IsTouched now (λ l. with_entry (without_entry (without_entry l to_name) from_name) to_name o.number))
    unfolding w₂ w₃ w₄ w₅ after
    within_to e =
        let f = o.target.file in
        let l₁ = clear.0 in
        let l₂ = without_entry l₁ from_name in
        let l₃ = with_entry l₂ to_name o.number in
        let a₂ : IsAt w₂ to f f.mtime f.ctime l₂ =
        subst (λ m. IsAt (without_name w₁ m from_name) to f f.mtime f.ctime l₂) (sym e)
        (at_relisted w₁ to f f.mtime f.ctime l₁ clear.1.at (λ m. without_entry m from_name)) in
        let a₃ = at_relisted w₂ to f f.mtime f.ctime l₂ a₂ (λ m. with_entry m to_name o.number) in
        let a₄ = at_other w₃ to f f.mtime f.ctime l₃ a₃ o.number (with_ctime now) (λ e. number_to (sym e)) in
        let a₅ : IsAt w₅ to f now now l₃ =
        subst (λ m. IsAt (touch now w₄ m) to f now now l₃) (sym e)
        (at_touched w₄ to f f.mtime f.ctime l₃ a₄ now) in
        becomes_touched now w after to f to_listing.0 l₃
        (λ l. with_entry
        (without_entry (without_entry l to_name) from_name) to_name o.number) o.target.there to_listing.1
        (at_touched w₅ to f now now l₃ a₅ now)
        (ap (λ l. with_entry (without_entry l from_name) to_name o.number) clear.1.is)

    -- ---- the files

    file_marked : Becomes w after o.number (ChangesCtime now)
    unfolding t w₁ w₂ w₃ w₄ w₅ after
    file_marked = becomes_marked now w after o.number o.file o.there
        (moved_apart now w o.number from from_name to to_name t o.number number_from number_to
        ∙ changed_here w₃ o.number (with_ctime now) o.number refl
        ∙ ap (option_map (with_ctime now))
        (before_mark now w o.number from from_name to to_name t o.number number_from number_to
        ∙ cleared_same o.number number_to (λ k c at e. target_number k c at (sym e)) ∙ o.there))

    target_loses : (k c : ℕ) → directory_entries w to to_name ≡ Some (k, c) → LosesName now w after k
    unfolding t w₁ w₂ w₃ w₄ w₅ after
    target_loses k c at =
        let g = m.replaces k c at in
        loses w who now tree to to_name k c at g.other g.there g.empty after
        (moved_apart now w o.number from from_name to to_name t k (target_from k c at) (target_to k c at)
        ∙ changed_other w₃ o.number (with_ctime now) k (target_number k c at)
        ∙ before_mark now w o.number from from_name to to_name t k (target_from k c at) (target_to k c at)
        ∙ ap (λ p. file_at (unlink_target now w to to_name (option_map (λ e. e.0) p)) k) at)

    -- RENAME of another file
    pub renamed_moves : Moves now w w' from from_name to to_name
    renamed_moves = subst (λ v. Moves now w v from from_name to to_name) (sym after_is) (record {
      number = o.number;
      cookie = o.cookie;
      was = o.is_named;
      file = file_marked;
      target = target_loses;
      source = apart_from;
      apart = apart_to;
      within = within_to;
    })
