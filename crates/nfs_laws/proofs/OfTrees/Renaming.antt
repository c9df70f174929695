-- RENAME leaves a tree a tree and moves a path: what stands at the new name goes, and then the entry moves.
-- Serves: renaming_moves_paths, trees_stay_trees, nothing_is_given_again and no_limit_is_passed.
use Rattle.std.proofs.Common.{◌≡◌, ◌≢◌, ⊎_elim, ℕ, ◌≤◌, Bool, true, false, List, [], ◌∷◌, ◌++◌, length}
use Rattle.std.proofs.Common.{Option, Some, None, is_some, nat_eq, eqb, option_map, option_and_then, refl}
use Rattle.std.proofs.Common.{sym, ap, subst, ◌∙◌, arith}
use Rattle.std.specs.Map.{lookup}
use Rattle.std.specs.Cmp.Lexicographic.{pointwise}
use Rattle.std.proofs.lemmas.Bool.{cases_eq, and_cases}
use Rattle.nfs_spec.specs.nfs_items.Timeval.{Timeval}
use Rattle.nfs_spec.specs.nfs_items.Caller.{Caller}
use Rattle.nfs_spec.specs.fs_spec.Listing.{Listing, entry_at, without_entry}
use Rattle.nfs_spec.specs.fs_spec.Paths.{DirectoryEntries, walk, path_at, Renames}
use Rattle.nfs_spec.specs.fs_spec.Files.{Body, Regular, Symlink, Directory, File, Files, file_at, listing_in}
use Rattle.nfs_spec.specs.fs_spec.Files.{listing, is_directory, directory_entries, names_of}
use Rattle.nfs_spec.specs.fs_spec.Trees.{IsTime, IsFileTree}
use Rattle.nfs_spec.proofs.fs_spec.Walks.{none_some, some_same, same_entry}
use Rattle.nfs_spec.specs.fs_spec.Changes.Edits.{with_changed_file, map_listing, map_body_listing, with_name}
use Rattle.nfs_spec.specs.fs_spec.Changes.Edits.{without_name}
use Rattle.nfs_spec.proofs.fs_spec.OfChanges.Finite.{changed_here, changed_other, gone_other}
use Rattle.nfs_spec.proofs.fs_spec.OfChanges.Listings.{leads}
use Rattle.nfs_spec.proofs.fs_spec.OfChanges.Shapes.{kind, is_some-kind, AllFiles, IsSameShape, IsNamed}
use Rattle.nfs_spec.proofs.fs_spec.OfChanges.Shapes.{IsUnnamed, same_then, named_shape, unnamed_shape}
use Rattle.nfs_spec.proofs.fs_spec.OfEditedTrees.Taking.{stays_taken}
use Rattle.nfs_spec.proofs.fs_spec.OfEditedTrees.Moving.{IsRenamed, IsMoved, renames_path, stays_moved}
use Rattle.nfs_spec.specs.Changes.{touch, touch_ctime, with_ctime, after_unlink}
use Rattle.nfs_spec.specs.Procedures.{is_above, unlink_target}
use Rattle.nfs_laws.specs.Steps.Granted.{MayReplace, MoveOk, RenameOk}
use Rattle.nfs_laws.proofs.OfSteps.Steps.{listing_there}
use Rattle.nfs_laws.proofs.OfTrees.FilesFit.{dir_file, is_dir, touch_shape, mark_shape, touch_files}
use Rattle.nfs_laws.proofs.OfTrees.FilesFit.{mark_files, named_files, unnamed_files, distinct_names}
use Rattle.nfs_laws.specs.Trees.Anew.{GivesAnew, Follows}
use Rattle.nfs_laws.proofs.OfTrees.GivenAnew.{nothing_given, taken_given, renamed_given, cookie_taken}
use Rattle.nfs_laws.proofs.OfTrees.GivenAnew.{cookie_unnamed, cookie_named, cookie_marked, cookie_touched}
use Rattle.nfs_laws.proofs.OfTrees.Removing.{unnamed_taken}
use Rattle.nfs_laws.proofs.OfTrees.RenameRoom.{moved_room}
use Rattle.nfs_laws.proofs.OfTrees.Above.{above_found, on_way}

-- a walk where less lies is one where more lies
walk_less : (at to : DirectoryEntries)
    → ((n : ℕ) (y : List ℕ) (e : ℕ × ℕ) → to n y ≡ Some e → at n y ≡ Some e)
    → (e f : ℕ × ℕ) (p : List (List ℕ)) → walk to e p ≡ Some f → walk at e p ≡ Some f
walk_less at to less e f [] h = h
walk_less at to less e f (y ∷ p) h = by (to e.0 y) refl (λ g. walk_less at to less g f p)
  where
    by : (o : Option (ℕ × ℕ)) → to e.0 y ≡ o → ((g : ℕ × ℕ) → walk to g p ≡ Some f → walk at g p ≡ Some f)
        → walk at e (y ∷ p) ≡ Some f
    by None is next = absurd (none_some (sym (ap (option_and_then (λ g. walk to g p)) is) ∙ h))
    by (Some g) is next = ap (option_and_then (λ g. walk at g p)) (less e.0 y g is)
        ∙ next g (sym (ap (option_and_then (λ g. walk to g p)) is) ∙ h)

-- ---- the next cookie of a directory

next_in : Files → ℕ → Option ℕ
next_in w n = option_map (λ f. (listing_in f.body).next) (file_at w n)

next_changed : (w : Files) (k : ℕ) (change : File → File)
    → ((f : File) → (listing_in (change f).body).next ≡ (listing_in f.body).next) → (n : ℕ)
    → next_in (with_changed_file w k change) n ≡ next_in w n
unfolding next_in
next_changed w k change keeps n = ⊎_elim
    (λ e. ap (option_map (λ f. (listing_in f.body).next)) (changed_here w k change n e) ∙ by (file_at w k)
    ∙ sym (ap (λ m. option_map (λ f. (listing_in f.body).next) (file_at w m)) e))
    (λ ne. ap (option_map (λ f. (listing_in f.body).next)) (changed_other w k change n ne))
    (cases_eq n k)
  where
    by : (o : Option File)
        → option_map (λ f. (listing_in f.body).next) (option_map change o)
        ≡ option_map (λ f. (listing_in f.body).next) o
    by None = refl
    by (Some f) = ap (λ m. Some m) (keeps f)

taken_next : (x : List ℕ) (b : Body)
    → (listing_in (map_body_listing (λ l. without_entry l x) b)).next ≡ (listing_in b).next
taken_next x (Regular bytes) = refl
taken_next x (Symlink target) = refl
taken_next x (Directory l) = refl

next_unnamed : (w : Files) (d : ℕ) (x : List ℕ) (n : ℕ) → next_in (without_name w d x) n ≡ next_in w n
next_unnamed w d x = next_changed w d (map_listing (λ l. without_entry l x)) (λ f. taken_next x f.body)

-- ---- what stood at the new name is gone

record IsCleared (w w₁ : Files) (d : ℕ) (x : List ℕ) : Type 0 where
  tree : IsFileTree w₁
  free : directory_entries w₁ d x ≡ None
  rest : (n : ℕ) (y : List ℕ) → ((n ≡ d) × (y ≡ x) → ⊥) → directory_entries w₁ n y ≡ directory_entries w n y
  kinds : (n : ℕ) → ((c : ℕ) → directory_entries w d x ≢ Some (n, c)) → kind w₁ n ≡ kind w n
  cookie : next_in w₁ d ≡ next_in w d
  anew : GivesAnew w w₁

module _ (now : Timeval) (time : IsTime now) (w : Files) (tree : IsFileTree w) (d : ℕ) (x : List ℕ)
    (f : File) (target : (t c : ℕ) → directory_entries w d x ≡ Some (t, c) → MayReplace w f t) where
  unlists : (t c : ℕ) → directory_entries w d x ≡ Some (t, c) → (y : List ℕ) → directory_entries w t y ≡ None
  unlists t c h y = let g = target t c h in ap (option_and_then (λ f. entry_at (listing_in f.body) y)) g.there
      ∙ ap (λ (es : List (List ℕ × (ℕ × ℕ))). lookup (pointwise nat_eq y) es) g.empty

  is_cleared : (o : Option (ℕ × ℕ)) → directory_entries w d x ≡ o
      → IsCleared w (unlink_target now w d x (option_map (λ e. e.0) o)) d x
  unfolding next_in
  is_cleared None h =
      record {
        tree = tree;
        free = h;
        rest = λ n y not. refl;
        kinds = λ n not. refl;
        cookie = refl;
        anew =
            nothing_given w;
      }
  is_cleared (Some t) h =
      let g = target t.0 t.1 h in
      let a = unnamed_taken now time w tree d x t.0 t.1 h g.other g.there g.empty in
      record {
        tree = stays_taken w _ tree d x t.0 t.1 a;
        free = a.change.here;
        rest = a.change.rest;
        kinds = λ n not. a.kinds n (λ e. not t.1 (h ∙ ap (λ m. Some (m, t.1)) (sym e)));
        anew = taken_given w _ d x t.0 t.1 a (cookie_taken now w d x t.0) (ap is_some g.there);
        cookie = by_left (eqb (names_of (without_name w d x) t.0) 0) t.0
            (λ e. none_some (sym (unlists t.0 t.1 h x) ∙ ap (λ m. directory_entries w m x) e ∙ h));
      }
    where
      by_left : (b : Bool) (k : ℕ) → k ≢ d
          → next_in (after_unlink b now (without_name w d x) k) d ≡ next_in w d
      by_left true k not =
          ap (option_map (λ f. (listing_in f.body).next))
          (gone_other (without_name w d x) k d (λ e. not (sym e)))
          ∙ next_unnamed w d x d
      by_left false k not = next_changed (without_name w d x) k (with_ctime now) (λ f. refl) d
          ∙ next_unnamed w d x d

-- ---- the whole

module _ (now : Timeval) (time : IsTime now) (w : Files) (tree : IsFileTree w) (who : Caller) (from : ℕ)
    (from_name : List ℕ) (to : ℕ) (to_name : List ℕ) (after : Files)
    (o : RenameOk w who now from from_name to to_name after)
    (m : MoveOk w now from from_name to to_name o.number o.file after) (bound : length to_name ≤ 255) where
  dir₂ : kind w to ≡ Some true
  dir₂ = is_dir w to o.target.file o.target.there o.target.directory

  not_above : (r : List (List ℕ)) (c : ℕ) → walk (directory_entries w) (o.number, o.cookie) r ≢ Some (to, c)
  not_above r c h = ⊎_elim
      (λ plain. some_false (sym (ap (option_map (λ f. is_directory f.body)) o.there ∙ ap (λ v. Some v) plain)
      ∙ on_way w tree (o.number, o.cookie) r to c h dir₂))
      (λ low. tf (sym (above_found w tree o.number o.cookie r to c dir₂ h) ∙ low))
      (and_cases (is_directory o.file.body) (is_above w o.number to) m.not_above)
    where
      tf : true ≡ false → ⊥
      tf h = cc

      some_false : ◌≡◌ {A = Option Bool} (Some false) (Some true) → ⊥
      some_false h = cc

  target : (t c : ℕ) → directory_entries w to to_name ≡ Some (t, c) → MayReplace w o.file t
  target t c h = m.replaces t c h

  w₁ : Files
  w₁ = unlink_target now w to to_name (option_map (λ e. e.0) (directory_entries w to to_name))

  a₁ : IsCleared w w₁ to to_name
  unfolding w₁
  a₁ = is_cleared now time w tree to to_name o.file target (directory_entries w to to_name) refl

  -- what lists is not the target
  lists_on : (n : ℕ) (y : List ℕ) (e : ℕ × ℕ) → directory_entries w n y ≡ Some e → (c : ℕ)
      → directory_entries w to to_name ≢ Some (n, c)
  lists_on n y e h c is = none_some (sym (unlists now time w tree to to_name o.file target n c is y) ∙ h)

  not_target₂ : (c : ℕ) → directory_entries w to to_name ≢ Some (to, c)
  not_target₂ c h = lists_on to to_name (to, c) h c h

  apart : (from ≡ to) × (from_name ≡ to_name) → ⊥
  apart e = m.other o.cookie (sym (λ i. directory_entries w (e.0 i) (e.1 i)) ∙ o.is_named)

  source₁ : directory_entries w₁ from from_name ≡ Some (o.number, o.cookie)
  source₁ = a₁.rest from from_name apart ∙ o.is_named

  dir₁₁ : kind w₁ from ≡ Some true
  dir₁₁ = a₁.kinds from (lists_on from from_name (o.number, o.cookie) o.is_named)
      ∙ tree.tree.lists from from_name o.number o.cookie o.is_named

  dir₂₁ : kind w₁ to ≡ Some true
  dir₂₁ = a₁.kinds to not_target₂ ∙ dir₂

  w₂ : Files
  w₂ = without_name w₁ from from_name

  less : IsUnnamed w₁ w₂ from from_name
  unfolding w₂
  less = let f = dir_file w₁ from dir₁₁ in
      unnamed_shape w₁ from from_name f.0 f.1 f.2 (distinct_names w₁ from f.0 a₁.tree.files f.1)

  files₂ : AllFiles w₂
  unfolding w₂
  files₂ = unnamed_files w₁ from from_name a₁.tree.files

  to_file : (f : File) × (file_at w₂ to ≡ Some f) × (is_directory f.body ≡ true)
  to_file = dir_file w₂ to (less.kinds to ∙ dir₂₁)

  same_cookie : (listing_in to_file.0.body).next ≡ (listing w to).next
  unfolding next_in w₂
  same_cookie =
      some_same (sym (ap (option_map (λ f. (listing_in f.body).next)) to_file.1)
      ∙ next_unnamed w₁ from from_name to ∙ a₁.cookie
      ∙ ap (option_map (λ f. (listing_in f.body).next)) o.target.there)
      ∙ sym (ap (λ (l : Listing). l.next) (listing_there w to o.target.file o.target.there))

  w₃ : Files
  w₃ = with_name w₂ to to_name o.number

  more : IsNamed w₂ w₃ to to_name o.number (listing w to).next
  unfolding w₃
  more = subst (λ c. IsNamed w₂ (with_name w₂ to to_name o.number) to to_name o.number c) same_cookie
      (named_shape w₂ to to_name to_file.0 to_file.1 to_file.2
      (distinct_names w₂ to to_file.0 files₂ to_file.1) o.number)

  w₄ : Files
  w₄ = touch_ctime now w₃ o.number

  w₅ : Files
  w₅ = touch now w₄ from

  end : Files
  end = touch now w₅ to

  files₆ : AllFiles end
  unfolding w₃ w₄ w₅ end
  files₆ = touch_files now w₅ to time
      (touch_files now w₄ from time
      (mark_files now w₃ o.number time (named_files w₂ to to_name o.number files₂)))

  shape : IsSameShape w₃ end
  unfolding w₄ w₅ end
  shape = same_then w₃ w₄ end (mark_shape now w₃ o.number)
      (same_then w₄ w₅ end (touch_shape now w₄ from) (touch_shape now w₅ to))

  put : directory_entries end to to_name ≡ Some (o.number, (listing w to).next)
  put = shape.directory_entries to to_name ∙ more.change.here

  taken : directory_entries end from from_name ≡ None
  taken = shape.directory_entries from from_name ∙ more.change.rest from from_name apart ∙ less.change.here

  rest : (n : ℕ) (y : List ℕ) → ((n ≡ from) × (y ≡ from_name) → ⊥) → ((n ≡ to) × (y ≡ to_name) → ⊥)
      → directory_entries end n y ≡ directory_entries w₁ n y
  rest n y n₁ n₂ = shape.directory_entries n y ∙ more.change.rest n y n₂ ∙ less.change.rest n y n₁

  free₂ : directory_entries w₂ to to_name ≡ None
  free₂ = less.change.rest to to_name (λ e. apart (sym e.0, sym e.1)) ∙ a₁.free

  still : (n : ℕ) (y : List ℕ) (e : ℕ × ℕ) → directory_entries w₁ n y ≡ Some e
      → directory_entries w n y ≡ Some e
  still n y e h = ⊎_elim
      (λ same. absurd (none_some (sym a₁.free ∙ sym (λ i. directory_entries w₁ (same.0 i) (same.1 i)) ∙ h)))
      (λ other. sym (a₁.rest n y other) ∙ h)
      (same_entry n to y to_name)

  moves : IsMoved w₁ end from from_name to to_name o.number o.cookie (listing w to).next
  moves = record {
    renamed = record {
      dir = dir₂₁;
      source = source₁;
      not_above = λ r c h. not_above r c
          (walk_less (directory_entries w) (directory_entries w₁) still (o.number, o.cookie) (to, c) r h);
      target = λ t c h. absurd (none_some (sym a₁.free ∙ h));
      put = put;
      taken = taken;
      rest = rest;
    };
    free = a₁.free;
    kinds = λ n. shape.kinds n ∙ more.kinds n ∙ less.kinds n;
    names = λ n.
        let a = shape.names n in
        let b = more.names n in
        let c = less.names n in
        let zero = ap (leads n) free₂ in
        let own = ap (leads n) source₁ in
        omega (arith, a, b, c, zero, own);
    next = shape.next ∙ more.next ∙ less.next;
    name = (o.target.named, bound);
    files = files₆;
  }

  renames : IsRenamed w end from from_name to to_name o.number o.cookie (listing w to).next
  renames = record {
    dir = dir₂;
    source = o.is_named;
    not_above = not_above;
    target = unlists now time w tree to to_name o.file target;
    put = put;
    taken = taken;
    rest = λ n y n₁ n₂. rest n y n₁ n₂ ∙ a₁.rest n y n₂;
  }

  given : GivesAnew w end
  unfolding w₂ w₃ w₄ w₅ end
  given = renamed_given w end from from_name to to_name o.number o.cookie (listing w to).next renames
      (omega arith)
      (omega (arith, a₁.anew.next, moves.next))
      (λ n is. a₁.anew.numbers n
      (is_some-kind w₁ n ∙ ap is_some (sym (moves.kinds n)) ∙ sym (is_some-kind end n) ∙ is))
      (λ n is is'. omega (
        arith,
        a₁.anew.cookies n is (sym (moves.kinds n) ∙ is'),
        cookie_unnamed w₁ from from_name n,
        cookie_named w₂ to to_name o.number n,
        cookie_marked now w₃ o.number n,
        cookie_touched now w₄ from n,
        cookie_touched now w₅ to n,
      ))

  -- a rename leaves a tree a tree, gives numbers and cookies anew, and passes no limit
  pub renames_follows : Follows w after
  unfolding w₁ w₂ w₃ w₄ w₅ end
  renames_follows = subst (Follows w) (sym m.effect) (record {
    tree = stays_moved w₁ end a₁.tree from from_name to to_name o.number o.cookie (listing w to).next moves;
    anew = given;
    room = moved_room now w o.number from from_name to to_name
        (option_map (λ e. e.0) (directory_entries w to to_name))
        (o.number, o.cookie) source₁ to_file.0 to_file.1 to_file.2 free₂
        (omega (arith, same_cookie, m.cookie));
  })

  -- what the one path led to is at the other, with all below it and the directory's next cookie
  pub renames_paths : (p q : List (List ℕ)) (b c : ℕ) → path_at (directory_entries w) p ≡ Some (from, b)
      → path_at (directory_entries w) q ≡ Some (to, c)
      → Renames (path_at (directory_entries w)) (path_at (directory_entries after)) (p ++ from_name ∷ [])
      (q ++ to_name ∷ []) (listing w to).next
  unfolding w₁ w₂ w₃ w₄ w₅ end
  renames_paths p q b c at_from at_to =
      subst (λ (v : Files). Renames (path_at (directory_entries w)) (path_at (directory_entries v))
      (p ++ from_name ∷ []) (q ++ to_name ∷ []) (listing w to).next) (sym m.effect)
      (renames_path w end tree from from_name to to_name o.number o.cookie
      (listing w to).next renames p q b c at_from at_to)
