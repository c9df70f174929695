-- REMOVE and RMDIR take one entry out and leave a tree a tree: a name of a file goes, and with the last name
-- the number.
-- Serves: removing_takes_a_path, trees_stay_trees, nothing_is_given_again and no_limit_is_passed;
-- the_last_name_takes_the_file (frames).
use Rattle.std.proofs.Common.{◌≡◌, ◌≢◌, ⊎_elim, inl, inr, ℕ, ◌<◌, Bool, true, false, List, [], Some, None}
use Rattle.std.proofs.Common.{nat_eq, eqb, is_some, option_map, option_and_then, refl, sym, ap, subst, ◌∙◌}
use Rattle.std.proofs.Common.{arith}
use Rattle.std.specs.Map.{lookup}
use Rattle.std.specs.Cmp.Lexicographic.{pointwise}
use Rattle.std.proofs.lemmas.Bool.{cases_eq, eqb-true, eqb-false}
use Rattle.nfs_spec.specs.nfs_items.Timeval.{Timeval}
use Rattle.nfs_spec.specs.nfs_items.Caller.{Caller}
use Rattle.nfs_spec.specs.fs_spec.Listing.{entry_at}
use Rattle.nfs_spec.specs.fs_spec.Files.{File, Files, file_at, listing_in, is_directory, directory_entries}
use Rattle.nfs_spec.specs.fs_spec.Files.{names_of}
use Rattle.nfs_spec.specs.fs_spec.Trees.{IsTime, IsFileTree}
use Rattle.nfs_spec.proofs.fs_spec.Walks.{none_some}
use Rattle.nfs_spec.proofs.fs_spec.OnePath.{root_has_no_name}
use Rattle.nfs_spec.specs.fs_spec.Changes.Edits.{without_file, without_name}
use Rattle.nfs_spec.proofs.fs_spec.OfChanges.Finite.{changed_other}
use Rattle.nfs_spec.proofs.fs_spec.OfChanges.Listings.{one, leads, one_same}
use Rattle.nfs_spec.proofs.fs_spec.OfChanges.Shapes.{kind, AllFiles, IsSameShape, IsUnnamed, IsOneLess}
use Rattle.nfs_spec.proofs.fs_spec.OfChanges.Shapes.{unnamed_shape, gone_shape, gone_files}
use Rattle.nfs_spec.proofs.fs_spec.OfEditedTrees.Taking.{IsTaken, stays_taken}
use Rattle.nfs_spec.proofs.fs_spec.OfChanges.Room.{no_more_then, still_room}
use Rattle.nfs_spec.specs.Changes.{touch, touch_ctime, unlink, after_unlink}
use Rattle.nfs_laws.specs.Steps.Granted.{UnnameOk}
use Rattle.nfs_laws.specs.Trees.Anew.{Follows}
use Rattle.nfs_laws.proofs.OfTrees.EditRoom.{touch_no_more, unlink_no_more}
use Rattle.nfs_laws.proofs.OfTrees.GivenAnew.{taken_given, cookie_taken, cookie_touched}
use Rattle.nfs_laws.proofs.OfTrees.FilesFit.{dir_file, is_dir, touch_shape, mark_shape, touch_files}
use Rattle.nfs_laws.proofs.OfTrees.FilesFit.{mark_files, unnamed_files, distinct_names}

-- what is taken is taken, whatever changes but the shape
pub taken_then : (u v w : Files) (d : ℕ) (x : List ℕ) (k c : ℕ) → IsTaken u v d x k c → IsSameShape v w
    → AllFiles w → IsTaken u w d x k c
taken_then u v w d x k c a s files = record {
  had = a.had;
  change = record {
    here = s.directory_entries d x ∙ a.change.here;
    rest =
        λ n y not. s.directory_entries n y ∙ a.change.rest n y not;
  };
  empty = a.empty;
  kinds = λ n ne. s.kinds n ∙ a.kinds n ne;
  left = ⊎_elim
      (λ l. inl (s.kinds k ∙ l.0, l.1, omega (arith, s.names k, l.2)))
      (λ l. inr (s.kinds k ∙ l.0, s.names k ∙ l.1))
      a.left;
  names = λ n. omega (arith, s.names n, a.names n);
  next = omega (arith, s.next, a.next);
  files = files;
}

module _ (now : Timeval) (time : IsTime now) (w : Files) (tree : IsFileTree w) (d : ℕ) (x : List ℕ) (n c : ℕ)
    (had : directory_entries w d x ≡ Some (n, c)) (f : File) (there : file_at w n ≡ Some f)
    (empty : (listing_in f.body).entries ≡ []) where
  nothing_below : (y : List ℕ) → directory_entries w n y ≡ None
  nothing_below y = ap (option_and_then (λ f. entry_at (listing_in f.body) y)) there
      ∙ ap (λ (es : List (List ℕ × (ℕ × ℕ))). lookup (pointwise nat_eq y) es) empty

  apart : n ≢ d
  apart e = none_some (sym (ap (λ m. directory_entries w m x) (sym e) ∙ nothing_below x) ∙ had)

  dir_kind : kind w d ≡ Some true
  dir_kind = tree.tree.lists d x n c had

  w₁ : Files
  w₁ = without_name w d x

  files₁ : AllFiles w₁
  unfolding w₁
  files₁ = unnamed_files w d x tree.files

  less : IsUnnamed w w₁ d x
  unfolding w₁
  less = let df = dir_file w d dir_kind in
      unnamed_shape w d x df.0 df.1 df.2 (distinct_names w d df.0 tree.files df.1)

  there₁ : file_at w₁ n ≡ Some f
  unfolding w₁
  there₁ = changed_other w d _ n apart ∙ there

  own_leads : (m : ℕ) → leads m (directory_entries w d x) ≡ one m n
  own_leads m = ap (leads m) had

  one_less : IsOneLess w₁ (without_file w₁ n) n
  one_less = gone_shape w₁ n f there₁ empty

  all_gone : names_of w₁ n ≡ 0 → IsTaken w (without_file w₁ n) d x n c
  all_gone zero = record {
    had = had;
    change = record {
      here = one_less.directory_entries d x ∙ less.change.here;
      rest =
          λ m y not. one_less.directory_entries m y ∙ less.change.rest m y not;
    };
    empty = nothing_below;
    kinds = λ m ne. one_less.kinds m ne ∙ less.kinds m;
    left = inr (one_less.gone, one_less.names n ∙ zero);
    names = λ m. omega (arith, one_less.names m, less.names m, own_leads m);
    next = omega (arith, one_less.next, less.next);
    files = gone_files w₁ n files₁;
  }

  -- a directory has no other name
  plain : 0 < names_of w₁ n → is_directory f.body ≡ false
  plain some = by (is_directory f.body) refl
    where
      by : (b : Bool) → is_directory f.body ≡ b → is_directory f.body ≡ false
      by false e = e
      by true e =
          let not_root : n ≢ 1 = λ r. root_has_no_name w tree d c x (had ∙ ap (λ m. Some (m, c)) r) in
          let own = one_same n n refl in
          absurd (omega (
            arith,
            some,
            less.names n,
            own_leads n,
            own,
            tree.directories n not_root (is_dir w n f there e),
          ))

  some_left : 0 < names_of w₁ n → IsTaken w (touch_ctime now w₁ n) d x n c
  some_left some =
      let s = mark_shape now w₁ n in
      let own : kind w n ≡ Some false = ap (option_map (λ f. is_directory f.body)) there
      ∙ ap (λ b. Some b) (plain some) in
      record {
        had = had;
        change = record {
          here = s.directory_entries d x ∙ less.change.here;
          rest =
              λ m y not. s.directory_entries m y ∙ less.change.rest m y not;
        };
        empty = nothing_below;
        kinds = λ m ne. s.kinds m ∙ less.kinds m;
        left = inl (s.kinds n ∙ less.kinds n ∙ own, own, omega (arith, s.names n, some));
        names = λ m. omega (arith, s.names m, less.names m, own_leads m);
        next = omega (arith, s.next, less.next);
        files = mark_files now w₁ n time files₁;
      }

  -- a name goes, and with the last one the file: one entry less, and nothing else of the shape
  pub unnamed_taken : IsTaken w (unlink now w d x n) d x n c
  unfolding w₁
  unnamed_taken = by (eqb (names_of w₁ n) 0) refl
    where
      by : (b : Bool) → eqb (names_of w₁ n) 0 ≡ b → IsTaken w (after_unlink b now w₁ n) d x n c
      by true e = all_gone (eqb-true _ _ e)
      by false e =
          some_left (⊎_elim (λ z. absurd (eqb-false _ _ e z)) (λ ne. positive (names_of w₁ n) ne)
          (cases_eq (names_of w₁ n) 0))
        where
          positive : (m : ℕ) → m ≢ 0 → 0 < m
          positive m ne = omega arith

  -- and the directory's times change nothing of that
  pub touched_taken : IsTaken w (touch now (unlink now w d x n) d) d x n c
  touched_taken =
      let v = unlink now w d x n in
      taken_then w v (touch now v d) d x n c unnamed_taken (touch_shape now v d)
      (touch_files now v d time unnamed_taken.files)

-- ---- REMOVE, RMDIR

module _ (now : Timeval) (time : IsTime now) (w : Files) (tree : IsFileTree w) (who : Caller) (dir : ℕ)
    (name : List ℕ) (after : Files) (kind : Bool) (o : UnnameOk kind w who now dir name after) where
  taken : IsTaken w (touch now (unlink now w dir name o.number) dir) dir name o.number o.cookie
  taken = touched_taken now time w tree dir name o.number o.cookie o.is_named o.file o.there o.empty

  -- one entry goes
  pub remove_taken : IsTaken w after dir name o.number o.cookie
  remove_taken = subst (λ (v : Files). IsTaken w v dir name o.number o.cookie) (sym o.effect) taken

  -- what takes a name leaves a tree a tree, gives nothing, and passes no limit
  pub remove_follows : Follows w after
  remove_follows =
      let end = touch now (unlink now w dir name o.number) dir in
      subst (Follows w) (sym o.effect) (record {
        tree = stays_taken w end tree dir name o.number o.cookie taken;
        anew = taken_given w end dir name o.number o.cookie taken
            (λ n ne. omega (
              arith,
              cookie_taken now w dir name o.number n ne,
              cookie_touched now (unlink now w dir name o.number) dir n,
            ))
            (ap is_some o.there);
        room = still_room w end
            (no_more_then w (unlink now w dir name o.number) end (unlink_no_more now w dir name o.number)
            (touch_no_more now (unlink now w dir name o.number) dir));
      })
