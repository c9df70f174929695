-- What becomes of the files that a procedure names, by what it says that it was not refused; of RENAME in
-- RenamedFiles.
-- Serves: setting_keeps_the_rest, making_keeps_the_rest, removing_keeps_the_rest (changes);
-- calls_change_what_they_name (frames).
use Rattle.std.proofs.Common.{◌≡◌, ◌≢◌, ℕ, ◌+◌, Bool, true, false, List, [], ◌∷◌, length, Some, None, eqb}
use Rattle.std.proofs.Common.{nat_eq, option_map, option_and_then, refl, sym, ap, subst, ◌∙◌, eq-eqb, ne_eqb}
use Rattle.std.proofs.Common.{arith}
use Rattle.std.specs.Prelude.{◌==◌, if◌then◌else◌}
use Rattle.std.specs.Map.{lookup}
use Rattle.std.specs.Cmp.Lexicographic.{pointwise}
use Rattle.nfs_spec.specs.nfs_items.Timeval.{Timeval}
use Rattle.nfs_spec.specs.nfs_items.Caller.{Caller}
use Rattle.nfs_spec.specs.fs_spec.Listing.{Listing, entry_at, with_entry, without_entry, HasDistinctNames}
use Rattle.nfs_spec.specs.fs_spec.Files.{Directory, File, Files, file_at, is_directory, listing_in}
use Rattle.nfs_spec.specs.fs_spec.Files.{directory_entries}
use Rattle.nfs_spec.specs.fs_spec.Files.{names_of}
use Rattle.nfs_spec.specs.fs_spec.Trees.{IsFileTree}
use Rattle.nfs_spec.proofs.fs_spec.Walks.{none_some, some_same}
use Rattle.nfs_spec.proofs.fs_spec.OnePath.{root_has_no_name}
use Rattle.nfs_spec.specs.fs_spec.Changes.Edits.{with_changed_file, with_new_file, with_name, without_name}
use Rattle.nfs_spec.specs.fs_spec.Changes.Edits.{map_listing}
use Rattle.nfs_spec.proofs.fs_spec.OfChanges.Finite.{new_here, new_other, changed_here, changed_other}
use Rattle.nfs_spec.proofs.fs_spec.OfChanges.Finite.{gone_here, gone_other}
use Rattle.nfs_spec.proofs.fs_spec.OfChanges.Listings.{leads, one_same}
use Rattle.nfs_spec.proofs.fs_spec.OfChanges.Shapes.{unnamed_shape}
use Rattle.nfs_spec.specs.Sattr.{GivenFields}
use Rattle.nfs_spec.specs.Changes.{apply_fields, touch, with_mtime, touch_ctime, with_ctime, unlink}
use Rattle.nfs_spec.specs.Changes.{after_unlink}
use Rattle.nfs_spec.specs.Procedures.{with_bytes_written, add_file}
use Rattle.nfs_laws.proofs.OfTrees.FilesFit.{dir_file, is_dir, next_free, distinct_names}
use Rattle.nfs_laws.specs.Changes.Changed.{Becomes, LosesName, IsSetTo, IsRewritten, Makes, Links, Unnames}
use Rattle.nfs_laws.specs.Steps.Granted.{SetOk, WriteOk, MakeOk, LinkOk, UnnameOk}
use Rattle.nfs_laws.proofs.OfChanges.DirectoryEntries.{listing_of, begins_at, at_same, at_other, at_relisted}
use Rattle.nfs_laws.proofs.OfChanges.DirectoryEntries.{at_touched, becomes_touched, becomes_marked}

-- ---- SETATTR, WRITE

module _ (w : Files) (who : Caller) (now : Timeval) where
  -- what a changed file becomes
  pub changed_is : (w' : Files) (n : ℕ) (f : File) (change : File → File) → file_at w n ≡ Some f
      → w' ≡ with_changed_file w n change → file_at w' n ≡ Some (change f)
  changed_is w' n f change there is =
      ap (λ v. file_at v n) is ∙ changed_here w n change n refl ∙ ap (option_map change) there

  -- SETATTR: the file has what was given
  pub set_becomes : (n : ℕ) (a : GivenFields) (w' : Files) → SetOk w who now n a w'
      → Becomes w w' n (IsSetTo now a)
  set_becomes n a w' o =
      record {
        old = o.file;
        new = apply_fields now a o.file;
        was = o.there;
        is =
            changed_is w' n o.file (apply_fields now a) o.there o.effect;
        change = refl;
      }

  -- bytes that are some are not none
  pub some_length : (new : List ℕ) → new ≢ [] → (length new == 0) ≡ false
  some_length [] h = absurd (h refl)
  some_length (b ∷ new) h = ne_eqb (length (b ∷ new)) 0 (λ e. absurd (omega (arith, e)))

  -- WRITE of some bytes: the file after it
  pub wrote_is : (n offset : ℕ) (new : List ℕ) → new ≢ []
      → (w' : Files) (o : WriteOk w who now n offset new w')
      → file_at w' n ≡ Some (with_bytes_written now offset new o.old o.file)
  wrote_is n offset new some w' o =
      changed_is w' n o.file (with_bytes_written now offset new o.old) o.there
      (o.effect ∙ ap (λ b. if b then w else with_changed_file w n
      (with_bytes_written now offset new o.old)) (some_length new some))

  -- WRITE of some bytes: all but mtime, ctime and the bytes stays
  pub wrote_becomes : (n offset : ℕ) (new : List ℕ) → new ≢ [] → (w' : Files)
      → WriteOk w who now n offset new w' → Becomes w w' n (IsRewritten now)
  wrote_becomes n offset new some w' o =
      record {
        old = o.file;
        new = with_bytes_written now offset new o.old o.file;
        was = o.there;
        is =
            wrote_is n offset new some w' o;
        change = refl;
      }

  -- ---- CREATE, MKDIR, SYMLINK, LINK

  -- what a directory has at a name is what its listing has
  pub entry_here : (d : ℕ) (f : File) (l : Listing) → file_at w d ≡ Some f → f.body ≡ Directory l
      → (x : List ℕ) → directory_entries w d x ≡ entry_at l x
  entry_here d f l there is x =
      ap (option_and_then (λ f. entry_at (listing_in f.body) x)) there
      ∙ ap (λ b. entry_at (listing_in b) x) is

  -- CREATE of a new name, MKDIR, SYMLINK
  pub made_makes : IsFileTree w → (dir : ℕ) (name : List ℕ) (f : File) (number : ℕ) (w' : Files)
      → MakeOk w who now dir name f number w' → Makes now w w' dir name number f
  made_makes tree dir name f number w' o =
      let l = listing_of o.directory.file.body o.directory.directory in
      let w₁ = with_new_file w f in
      let w₂ = with_name w₁ dir name w.next in
      let b₁ = at_same w dir o.directory.file o.directory.file.mtime o.directory.file.ctime l.0
      (begins_at w dir o.directory.file l.0 o.directory.there l.1) w₁
      (new_other w f dir (λ e. apart (sym e))) in
      let b₂ = at_relisted w₁ dir o.directory.file o.directory.file.mtime o.directory.file.ctime l.0 b₁
      (λ m. with_entry m name w.next) in
      let b₃ = at_touched w₂ dir o.directory.file o.directory.file.mtime o.directory.file.ctime
      (with_entry l.0 name w.next) b₂ now in
      let own = becomes_touched now w (add_file now w dir name f) dir o.directory.file l.0
      (with_entry l.0 name w.next) (λ m. with_entry m name w.next) o.directory.there l.1 b₃ refl in
      let new : file_at (add_file now w dir name f) w.next ≡ Some f =
      changed_other w₂ dir (with_mtime now) w.next apart
      ∙ changed_other w₁ dir (map_listing (λ m. with_entry m name w.next)) w.next apart
      ∙ new_here w f w.next refl in
      let whole : Makes now w (add_file now w dir name f) dir name w.next f =
      record {
        number_is = refl;
        free = next_free w tree;
        unused = o.free;
        made = new;
        directory =
            own;
      } in
      subst (λ k. Makes now w w' dir name k f) (sym o.is_next)
      (subst (λ v. Makes now w v dir name w.next f) (sym o.effect) whole)
    where
      apart : w.next ≢ dir
      apart e = none_some (sym (next_free w tree) ∙ ap (file_at w) e ∙ o.directory.there)

  -- LINK
  pub linked_links : (from dir : ℕ) (name : List ℕ) (w' : Files) → LinkOk w who now from dir name w'
      → Links now w w' from dir name
  linked_links from dir name w' o =
      let l = listing_of o.directory.file.body o.directory.directory in
      let w₁ = touch_ctime now w from in
      let w₂ = with_name w₁ dir name from in
      let b₁ = at_other w dir o.directory.file o.directory.file.mtime o.directory.file.ctime l.0
      (begins_at w dir o.directory.file l.0 o.directory.there l.1) from (with_ctime now)
      (λ e. apart (sym e)) in
      let b₂ = at_relisted w₁ dir o.directory.file o.directory.file.mtime o.directory.file.ctime l.0 b₁
      (λ m. with_entry m name from) in
      let b₃ = at_touched w₂ dir o.directory.file o.directory.file.mtime o.directory.file.ctime
      (with_entry l.0 name from) b₂ now in
      let own = becomes_touched now w (touch now w₂ dir) dir o.directory.file l.0 (with_entry l.0 name from)
      (λ m. with_entry m name from) o.directory.there l.1 b₃ refl in
      let file : file_at (touch now w₂ dir) from ≡ Some (with_ctime now o.file) =
      changed_other w₂ dir (with_mtime now) from apart
      ∙ changed_other w₁ dir (map_listing (λ m. with_entry m name from)) from apart
      ∙ changed_here w from (with_ctime now) from refl ∙ ap (option_map (with_ctime now)) o.there in
      subst (λ v. Links now w v from dir name) (sym o.effect)
      (record {
        unused = o.free;
        file =
            becomes_marked now w (touch now w₂ dir) from o.file o.there file;
        directory = own;
      })
    where
      apart : from ≢ dir
      apart e = tf (sym o.directory.directory
          ∙ ap (λ (f : File). is_directory f.body)
          (some_same (sym o.directory.there ∙ ap (file_at w) (sym e) ∙ o.there)) ∙ o.plain)
        where
          tf : true ≡ false → ⊥
          tf h = cc

  -- ---- REMOVE, RMDIR

  -- what lists a name is not what lists none
  pub lists_none : (n d : ℕ) (f : File) → file_at w n ≡ Some f → (listing_in f.body).entries ≡ []
      → (x : List ℕ) (e : ℕ × ℕ) → directory_entries w d x ≡ Some e → n ≢ d
  lists_none n d f there empty x e at same =
      none_some (sym (ap (λ m. directory_entries w m x) (sym same)
      ∙ ap (option_and_then (λ f. entry_at (listing_in f.body) x)) there
      ∙ ap (λ (es : List (List ℕ × (ℕ × ℕ))). lookup (pointwise nat_eq x) es) empty) ∙ at)

  module _ (tree : IsFileTree w) where
    -- in a tree a directory lists each name once
    pub distinct_in : (d : ℕ) (f : File) (l : Listing) → file_at w d ≡ Some f → f.body ≡ Directory l
        → HasDistinctNames l.entries
    distinct_in d f l there is =
        subst (λ b. HasDistinctNames (listing_in b).entries) is (distinct_names w d f tree.files there)

    module _ (d : ℕ) (x : List ℕ) (n c : ℕ) (at : directory_entries w d x ≡ Some (n, c)) (f : File)
        (there : file_at w n ≡ Some f) (empty : (listing_in f.body).entries ≡ []) where
      one_name_less : names_of (without_name w d x) n + 1 ≡ names_of w n
      one_name_less =
          let df = dir_file w d (tree.tree.lists d x n c at) in
          let shape = unnamed_shape w d x df.0 df.1 df.2 (distinct_names w d df.0 tree.files df.1) in
          let led : leads n (directory_entries w d x) ≡ 1 = ap (leads n) at ∙ one_same n n refl in
          omega (arith, shape.names n, led)

      there₁ : file_at (without_name w d x) n ≡ Some f
      there₁ = changed_other w d (map_listing (λ l. without_entry l x)) n
          (lists_none n d f there empty x (n, c) at) ∙ there

      -- whatever else changes of the others
      pub loses : (w' : Files) → file_at w' n ≡ file_at (unlink now w d x n) n → LosesName now w w' n
      loses w' same = record {
        last = λ e. same ∙ ap (λ b. file_at (after_unlink b now w₁ n) n)
            (eq-eqb (names_of w₁ n) 0 (omega (arith, e, one_name_less))) ∙ gone_here w₁ n n refl;
        others = λ ne. becomes_marked now w w' n f there
            (same ∙ ap (λ b. file_at (after_unlink b now w₁ n) n)
            (ne_eqb (names_of w₁ n) 0 (λ e. ne (omega (arith, e, one_name_less))))
            ∙ changed_here w₁ n (with_ctime now) n refl ∙ ap (option_map (with_ctime now)) there₁);
      }
        where
          w₁ : Files
          w₁ = without_name w d x

    -- REMOVE and RMDIR
    pub removed_unnames : (directory : Bool) (dir : ℕ) (name : List ℕ) (w' : Files)
        → UnnameOk directory w who now dir name w' → Unnames now w w' dir name
    removed_unnames directory dir name w' o =
        let df = dir_file w dir (tree.tree.lists dir name o.number o.cookie o.is_named) in
        let l = listing_of df.0.body df.2 in
        let w₁ = without_name w dir name in
        let v = unlink now w dir name o.number in
        let apart = lists_none o.number dir o.file o.there o.empty name (o.number, o.cookie) o.is_named in
        let b₁ = at_relisted w dir df.0 df.0.mtime df.0.ctime l.0 (begins_at w dir df.0 l.0 df.1 l.1)
        (λ m. without_entry m name) in
        let b₂ = at_same w₁ dir df.0 df.0.mtime df.0.ctime (without_entry l.0 name) b₁ v
        (kept apart (eqb (names_of w₁ o.number) 0)) in
        let b₃ = at_touched v dir df.0 df.0.mtime df.0.ctime (without_entry l.0 name) b₂ now in
        let own = becomes_touched now w (touch now v dir) dir df.0 l.0 (without_entry l.0 name)
        (λ m. without_entry m name) df.1 l.1 b₃ refl in
        let lost = loses dir name o.number o.cookie o.is_named o.file o.there o.empty (touch now v dir)
        (changed_other v dir (with_mtime now) o.number apart) in
        subst (λ u. Unnames now w u dir name) (sym o.effect)
        (record { number = o.number; cookie = o.cookie; was = o.is_named; file = lost; directory = own })
      where
        kept : o.number ≢ dir → (b : Bool)
            → file_at (after_unlink b now (without_name w dir name) o.number) dir
            ≡ file_at (without_name w dir name) dir
        kept apart true = gone_other (without_name w dir name) o.number dir (λ e. apart (sym e))
        kept apart false =
            changed_other (without_name w dir name) o.number (with_ctime now) dir (λ e. apart (sym e))

    -- a directory has one name
    pub directory_gone : (dir : ℕ) (name : List ℕ) (n c : ℕ) → directory_entries w dir name ≡ Some (n, c)
        → (w' : Files) → UnnameOk true w who now dir name w' → file_at w' n ≡ None
    directory_gone dir name n c at w' o =
        let u = removed_unnames true dir name w' o in
        let not_root : o.number ≢ 1 = λ e. root_has_no_name w tree dir o.cookie name
        (o.is_named ∙ ap (λ m. Some (m, o.cookie)) e) in
        let same : n ≡ u.number = ap (λ (e : ℕ × ℕ). e.0) (some_same (sym at ∙ u.was)) in
        let same' : n ≡ o.number = ap (λ (e : ℕ × ℕ). e.0) (some_same (sym at ∙ o.is_named)) in
        ap (file_at w') same ∙ u.file.last (ap (names_of w) (sym same ∙ same')
        ∙ tree.directories o.number not_root (is_dir w o.number o.file o.there o.kind))
