-- What makes a file, and LINK, add one entry and leave a tree a tree.
-- Serves: making_adds_a_path, trees_stay_trees, nothing_is_given_again and no_limit_is_passed.
use Rattle.std.proofs.Common.{◌≡◌, ◌≢◌, inl, inr, ℕ, ◌≤◌, Bool, true, false, List, [], length, Option, Some}
use Rattle.std.proofs.Common.{None, IsSome, is_some, option_map, refl, sym, ap, subst, ◌∙◌, arith}
use Rattle.nfs_spec.specs.nfs_items.Timeval.{Timeval}
use Rattle.nfs_spec.specs.nfs_items.Caller.{Caller}
use Rattle.nfs_spec.specs.fs_spec.Listing.{Listing}
use Rattle.nfs_spec.specs.fs_spec.Files.{File, Files, file_at, listing_in, listing, is_directory}
use Rattle.nfs_spec.specs.fs_spec.Files.{IsDirectory, directory_entries}
use Rattle.nfs_spec.specs.fs_spec.Trees.{IsTime, IsFile, IsFileTree}
use Rattle.nfs_spec.specs.fs_spec.Changes.Edits.{with_new_file, with_name}
use Rattle.nfs_spec.proofs.fs_spec.OfChanges.Finite.{new_other, changed_other}
use Rattle.nfs_spec.proofs.fs_spec.OfChanges.Listings.{leads}
use Rattle.nfs_spec.proofs.fs_spec.OfChanges.Shapes.{kind, AllFiles, IsSameShape, IsNamed, IsOneMore}
use Rattle.nfs_spec.proofs.fs_spec.OfChanges.Shapes.{new_shape, named_shape, new_files, is_some-kind}
use Rattle.nfs_spec.proofs.fs_spec.OfEditedTrees.Adding.{IsAdded, stays_added}
use Rattle.nfs_spec.specs.Changes.{touch, touch_ctime, with_ctime}
use Rattle.nfs_spec.specs.Procedures.{add_file}
use Rattle.nfs_laws.specs.Steps.Granted.{MayEdit, MakeOk, LinkOk}
use Rattle.nfs_laws.proofs.OfSteps.Steps.{listing_there}
use Rattle.nfs_laws.specs.Trees.Anew.{GivesAnew, Follows}
use Rattle.nfs_laws.proofs.OfTrees.GivenAnew.{added_given, cookie_new, cookie_named, cookie_touched}
use Rattle.nfs_laws.proofs.OfTrees.GivenAnew.{cookie_marked}
use Rattle.nfs_laws.proofs.OfTrees.FilesFit.{is_dir, is_there, missing, next_free, next_unnamed, touch_shape}
use Rattle.nfs_laws.proofs.OfTrees.FilesFit.{mark_shape, touch_files, mark_files, named_files, distinct_names}

-- nothing is listed by what is no directory or not there
unlisted : (w : Files) (n : ℕ) (y : List ℕ) → (kind w n ≡ Some true → ⊥) → IsFileTree w
    → directory_entries w n y ≡ None
unlisted w n y not tree = by (directory_entries w n y) refl
  where
    by : (o : Option (ℕ × ℕ)) → directory_entries w n y ≡ o → directory_entries w n y ≡ None
    by None e = e
    by (Some p) e = absurd (not (tree.tree.lists n y p.0 p.1 e))

module _ (now : Timeval) (time : IsTime now) (w : Files) (tree : IsFileTree w) (who : Caller) (dir : ℕ)
    (name : List ℕ) (edit : MayEdit w who dir name) (free : directory_entries w dir name ≡ None)
    (bound : length name ≤ 255) where
  next_cookie : (listing_in edit.file.body).next ≡ (listing w dir).next
  next_cookie = ap (λ (l : Listing). l.next) (sym (listing_there w dir edit.file edit.there))

  module _ (f : File) (empty : (listing_in f.body).entries ≡ []) (fits : IsFile f) where
    w₁ : Files
    w₁ = with_new_file w f

    w₂ : Files
    unfolding w₁
    w₂ = with_name w₁ dir name w.next

    more : IsOneMore w w₁ w.next (is_directory f.body)
    unfolding w₁
    more = new_shape w f (next_free w tree) empty

    other : dir ≢ w.next
    other e = missing (file_at w w.next) (next_free w tree)
        (subst (λ m. IsSome (file_at w m)) e (is_there w dir edit.file edit.there))

    there₁ : file_at w₁ dir ≡ Some edit.file
    unfolding w₁
    there₁ = new_other w f dir other ∙ edit.there

    files₁ : AllFiles w₁
    unfolding w₁
    files₁ = new_files w f tree.files fits

    named : IsNamed w₁ w₂ dir name w.next (listing w dir).next
    unfolding w₂
    named =
        subst (IsNamed w₁ (with_name w₁ dir name w.next) dir name w.next) next_cookie
        (named_shape w₁ dir name edit.file there₁ edit.directory
        (distinct_names w₁ dir edit.file files₁ there₁) w.next)

    touched_shape : IsSameShape w₂ (add_file now w dir name f)
    unfolding w₁ w₂
    touched_shape = touch_shape now w₂ dir

    made_added : IsAdded w (add_file now w dir name f) dir name w.next (listing w dir).next
    unfolding w₁ w₂
    made_added = record {
      dir = is_dir w dir edit.file edit.there edit.directory;
      free = free;
      change = record {
        here = touched_shape.directory_entries dir name ∙ named.change.here;
        rest = λ n y not. touched_shape.directory_entries n y ∙ named.change.rest n y not
            ∙ more.directory_entries n y;
      };
      empty = λ y. touched_shape.directory_entries w.next y
          ∙ named.change.rest w.next y (λ e. other (sym e.0))
          ∙ more.directory_entries w.next y ∙ unlisted w w.next y next_no_dir tree;
      kinds = λ n ne. touched_shape.kinds n ∙ named.kinds n ∙ more.kinds n ne;
      there = ap is_some (touched_shape.kinds w.next ∙ named.kinds w.next ∙ more.new);
      not_root = λ e. absurd (omega (arith, e, tree.numbers 1 (tree.tree.there 1 tree.tree.root)));
      fresh = λ _. next_unnamed w tree;
      names = λ n.
          let a = touched_shape.names n in
          let b = named.names n in
          let c = more.names n in
          let zero = ap (leads n) (more.directory_entries dir name ∙ free) in
          omega (arith, a, b, c, zero);
      number = (
        omega (arith, tree.numbers 1 (tree.tree.there 1 tree.tree.root)),
        omega (arith, touched_shape.next, named.next, more.next),
      );
      next = omega (arith, touched_shape.next, named.next, more.next);
      name = (edit.named, bound);
      files = touch_files now w₂ dir time (named_files w₁ dir name w.next files₁);
    }
      where
        next_no_dir : kind w w.next ≡ Some true → ⊥
        next_no_dir h = missing (file_at w w.next) (next_free w tree) (is_some-kind w w.next ∙ ap is_some h)

  module _ (k : ℕ) (f : File) (there_k : file_at w k ≡ Some f) (no_dir : is_directory f.body ≡ false) where
    u₁ : Files
    u₁ = touch_ctime now w k

    u₂ : Files
    unfolding u₁
    u₂ = with_name u₁ dir name k

    kind_k : kind w k ≡ Some false
    kind_k = ap (option_map (λ f. is_directory f.body)) there_k ∙ ap (λ b. Some b) no_dir

    true_false : ◌≡◌ {A = Option Bool} (Some true) (Some false) → ⊥
    true_false h = cc

    apart : dir ≢ k
    apart e = true_false (sym (is_dir w dir edit.file edit.there edit.directory) ∙ ap (kind w) e ∙ kind_k)

    marked_shape : IsSameShape w u₁
    unfolding u₁
    marked_shape = mark_shape now w k

    u_there : file_at u₁ dir ≡ Some edit.file
    unfolding u₁
    u_there = changed_other w k (with_ctime now) dir apart ∙ edit.there

    u_files : AllFiles u₁
    unfolding u₁
    u_files = mark_files now w k time tree.files

    u_named : IsNamed u₁ u₂ dir name k (listing w dir).next
    unfolding u₂
    u_named =
        subst (IsNamed u₁ (with_name u₁ dir name k) dir name k) next_cookie
        (named_shape u₁ dir name edit.file u_there edit.directory
        (distinct_names u₁ dir edit.file u_files u_there) k)

    u_touched : IsSameShape u₂ (touch now (with_name (touch_ctime now w k) dir name k) dir)
    unfolding u₁ u₂
    u_touched = touch_shape now u₂ dir

    linked_added :
        IsAdded w (touch now (with_name (touch_ctime now w k) dir name k) dir) dir name k (listing w dir).next
    unfolding u₁ u₂
    linked_added = record {
      dir = is_dir w dir edit.file edit.there edit.directory;
      free = free;
      change = record {
        here = u_touched.directory_entries dir name ∙ u_named.change.here;
        rest = λ n y not. u_touched.directory_entries n y ∙ u_named.change.rest n y not
            ∙ marked_shape.directory_entries n y;
      };
      empty = λ y. u_touched.directory_entries k y ∙ u_named.change.rest k y (λ e. apart (sym e.0))
          ∙ marked_shape.directory_entries k y ∙ unlisted w k y (λ h. true_false (sym h ∙ kind_k)) tree;
      kinds = λ n ne. u_touched.kinds n ∙ u_named.kinds n ∙ marked_shape.kinds n;
      there = ap is_some (u_touched.kinds k ∙ u_named.kinds k ∙ marked_shape.kinds k ∙ kind_k);
      not_root = λ e. true_false (sym tree.tree.root ∙ ap (kind w) (sym e) ∙ kind_k);
      fresh = λ h. absurd (true_false (sym h ∙ u_touched.kinds k ∙ u_named.kinds k ∙ marked_shape.kinds k
          ∙ kind_k));
      names = λ n.
          let a = u_touched.names n in
          let b = u_named.names n in
          let c = marked_shape.names n in
          let zero = ap (leads n) (marked_shape.directory_entries dir name ∙ free) in
          omega (arith, a, b, c, zero);
      number = let n = tree.numbers k (is_there w k f there_k) in
          (n.0, omega (arith, n, u_touched.next, u_named.next, marked_shape.next));
      next = omega (arith, u_touched.next, u_named.next, marked_shape.next);
      name = (edit.named, bound);
      files = touch_files now u₂ dir time (named_files u₁ dir name k u_files);
    }

-- ---- each procedure

-- a file keeps a directory's number from being the next
not_next : (w : Files) → IsFileTree w → (n : ℕ) → IsDirectory w n → n ≢ w.next
not_next w tree n is e = absurd (omega (arith, e, tree.numbers n (tree.tree.there n is)))

module _ (now : Timeval) (time : IsTime now) (w : Files) (tree : IsFileTree w) (who : Caller) (dir : ℕ)
    (name : List ℕ) (bound : length name ≤ 255) where
  module _ (f : File) (empty : (listing_in f.body).entries ≡ []) (fits : IsFile f) (number : ℕ)
      (after : Files) (o : MakeOk w who now dir name f number after) where
    as_made : (P : ℕ → Files → Type 0) → P w.next (add_file now w dir name f) → P number after
    as_made P h = subst (λ n. P n after) (sym o.is_next) (subst (P w.next) (sym o.effect) h)

    -- what makes a file adds one entry, with the next number and the directory's next cookie
    pub make_added : IsAdded w after dir name number (listing w dir).next
    make_added =
        as_made (λ n v. IsAdded w v dir name n (listing w dir).next)
        (made_added now time w tree who dir name o.directory o.free bound f empty fits)

    given : GivesAnew w (add_file now w dir name f)
    given =
        let one = with_new_file w f in
        let a = made_added now time w tree who dir name o.directory o.free bound f empty fits in
        added_given w (add_file now w dir name f) dir name w.next (listing w dir).next a (omega arith)
        (inr (omega arith))
        (λ n is. omega (
          arith,
          cookie_new w f n (not_next w tree n is),
          cookie_named one dir name w.next n,
          cookie_touched now (with_name one dir name w.next) dir n,
        ))

    -- what makes a file leaves a tree a tree, gives numbers and cookies anew, and passes no limit
    pub make_follows : Follows w after
    make_follows = record {
      tree = stays_added w after tree dir name number (listing w dir).next make_added;
      anew = subst (GivesAnew w) (sym o.effect) given;
      room = λ _. o.room;
    }

  module _ (from : ℕ) (after : Files) (o : LinkOk w who now from dir name after) where
    linked : IsAdded w (touch now (with_name (touch_ctime now w from) dir name from) dir) dir name from
        (listing w dir).next
    linked = linked_added now time w tree who dir name o.directory o.free bound from o.file o.there o.plain

    -- LINK adds one entry, with the file's number and the directory's next cookie
    pub link_added : IsAdded w after dir name from (listing w dir).next
    link_added = subst (λ (v : Files). IsAdded w v dir name from (listing w dir).next) (sym o.effect) linked

    given_linked : GivesAnew w (touch now (with_name (touch_ctime now w from) dir name from) dir)
    given_linked =
        let one = touch_ctime now w from in
        added_given w (touch now (with_name one dir name from) dir) dir name from (listing w dir).next linked
        (omega arith) (inl (ap is_some o.there))
        (λ n is. omega (
          arith,
          cookie_marked now w from n,
          cookie_named one dir name from n,
          cookie_touched now (with_name one dir name from) dir n,
        ))

    -- LINK leaves a tree a tree, gives cookies anew, and passes no limit
    pub link_follows : Follows w after
    link_follows = record {
      tree = stays_added w after tree dir name from (listing w dir).next link_added;
      anew = subst (GivesAnew w) (sym o.effect) given_linked;
      room = λ _. o.room;
    }
