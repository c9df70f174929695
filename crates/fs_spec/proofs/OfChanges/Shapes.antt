-- What changes of files leave of entries, kinds and counts of names.
-- Serves: trees_stay_trees (nfs_laws); every edit of nfs_laws::trees.
use Rattle.std.proofs.Common.{◌≡◌, ◌≢◌, ◌⊎◌, inl, inr, ⊎_elim, ℕ, ◌+◌, Bool, true, List, [], sum_by, Option}
use Rattle.std.proofs.Common.{Some, None, is_some, nat_eq, option_map, option_and_then, refl, sym, ap, subst}
use Rattle.std.proofs.Common.{◌∙◌, arith}
use Rattle.std.specs.Map.{lookup}
use Rattle.std.specs.Cmp.Lexicographic.{pointwise}
use Rattle.std.proofs.lemmas.Bool.{cases_eq}
use Rattle.fs_spec.specs.Listing.{Listing, entry_at, with_entry, without_entry, HasDistinctNames}
use Rattle.fs_spec.specs.Paths.{ChangesEntry}
use Rattle.fs_spec.specs.Files.{Body, Regular, Symlink, Directory, File, Files, file_at, listing_in}
use Rattle.fs_spec.specs.Files.{is_directory, directory_entries, one_if, names_in, names_of}
use Rattle.fs_spec.specs.Trees.{IsFile}
use Rattle.fs_spec.specs.Changes.Edits.{with_new_file, with_changed_file, without_file, map_body_listing}
use Rattle.fs_spec.specs.Changes.Edits.{map_listing, with_name, without_name}
use Rattle.fs_spec.proofs.Walks.{none_some, some_same, same_name}
use Rattle.fs_spec.proofs.OfChanges.Finite.{new_here, new_other, changed_next, nothing_changes, changed_here}
use Rattle.fs_spec.proofs.OfChanges.Finite.{changed_other, gone_here, gone_other, total_new, total_changed}
use Rattle.fs_spec.proofs.OfChanges.Finite.{total_without}
use Rattle.fs_spec.proofs.OfChanges.Listings.{one, leads, with_entry_here, with_entry_other}
use Rattle.fs_spec.proofs.OfChanges.Listings.{without_entry_here, without_entry_other, names_with_entry}
use Rattle.fs_spec.proofs.OfChanges.Listings.{names_without_entry}

-- whether a number is a directory's, if it is there
abbrev pub kind : Files → ℕ → Option Bool
kind w n = option_map (λ f. is_directory f.body) (file_at w n)

-- each file is as a file may be
abbrev pub AllFiles : Files → Type 0
AllFiles w = (n : ℕ) (f : File) → file_at w n ≡ Some f → IsFile f

-- a file is there exactly where it has a kind
pub is_some-kind : (w : Files) (n : ℕ) → is_some (file_at w n) ≡ is_some (kind w n)
is_some-kind w n = by (file_at w n)
  where
    by : (o : Option File) → is_some o ≡ is_some (option_map (λ f. is_directory f.body) o)
    by None = refl
    by (Some f) = refl

-- entries, kinds, counts of names and the next number are as they were
pub record IsSameShape (w w' : Files) : Type 0 where
  -- each name of each directory leads to what it led to
  pub directory_entries : (n : ℕ) (y : List ℕ) → directory_entries w' n y ≡ directory_entries w n y
  -- each number keeps its kind: a directory, another file, or not there
  pub kinds : (n : ℕ) → kind w' n ≡ kind w n
  -- each number has as many names as before
  pub names : (n : ℕ) → names_of w' n ≡ names_of w n
  -- the next number stays
  pub next : w'.next ≡ w.next

-- one shape and then one shape is one shape
pub same_then : (u v w : Files) → IsSameShape u v → IsSameShape v w → IsSameShape u w
same_then u v w a b = record {
  directory_entries = λ n y. b.directory_entries n y ∙ a.directory_entries n y;
  kinds = λ n. b.kinds n ∙ a.kinds n;
  names = λ n. b.names n ∙ a.names n;
  next = b.next ∙ a.next;
}

-- what is read of one file
read_entry : List ℕ → Option File → Option (ℕ × ℕ)
read_entry y o = option_and_then (λ f. entry_at (listing_in f.body) y) o

-- ---- one file changed

module _ (w : Files) (k : ℕ) (change : File → File) where
  -- a change that keeps a file its kind keeps all kinds
  pub changed_kinds : ((f : File) → file_at w k ≡ Some f → is_directory (change f).body ≡ is_directory f.body)
      → (n : ℕ) → kind (with_changed_file w k change) n ≡ kind w n
  changed_kinds keeps n = ⊎_elim
      (λ e. ap (option_map (λ f. is_directory f.body)) (changed_here w k change n e) ∙ by (file_at w k) refl
      ∙ sym (ap (kind w) e))
      (λ ne. ap (option_map (λ f. is_directory f.body)) (changed_other w k change n ne))
      (cases_eq n k)
    where
      by : (o : Option File) → file_at w k ≡ o
          → option_map (λ f. is_directory f.body) (option_map change o)
          ≡ option_map (λ f. is_directory f.body) (file_at w k)
      by None is = sym (ap (option_map (λ f. is_directory f.body)) is)
      by (Some f) is = ap (λ b. Some b) (keeps f is) ∙ sym (ap (option_map (λ f. is_directory f.body)) is)

  -- a change to a file within its limits leaves all so
  pub changed_files : AllFiles w → ((f : File) → file_at w k ≡ Some f → IsFile (change f))
      → AllFiles (with_changed_file w k change)
  changed_files all fits n f h = ⊎_elim
      (λ e. by (file_at w k) refl (sym (changed_here w k change n e) ∙ h))
      (λ ne. all n f (sym (changed_other w k change n ne) ∙ h))
      (cases_eq n k)
    where
      by : (o : Option File) → file_at w k ≡ o → option_map change o ≡ Some f → IsFile f
      by None is g = absurd (none_some g)
      by (Some old) is g = subst IsFile (some_same g) (fits old is)

  -- whose listing stays
  pub same_shape : ((f : File) → file_at w k ≡ Some f → listing_in (change f).body ≡ listing_in f.body)
      → ((f : File) → file_at w k ≡ Some f → is_directory (change f).body ≡ is_directory f.body)
      → IsSameShape w (with_changed_file w k change)
  unfolding read_entry
  same_shape lists keeps = record {
    directory_entries = λ n y. ⊎_elim
        (λ e. ap (read_entry y) (changed_here w k change n e) ∙ entry y (file_at w k) refl
        ∙ sym (ap (λ m. directory_entries w m y) e))
        (λ ne. ap (read_entry y) (changed_other w k change n ne))
        (cases_eq n k);
    kinds = changed_kinds keeps;
    names = λ n. count n (file_at w k) refl;
    next = changed_next w k change 0;
  }
    where
      entry : (y : List ℕ) (o : Option File) → file_at w k ≡ o
          → read_entry y (option_map change o) ≡ read_entry y (file_at w k)
      entry y None is = sym (ap (read_entry y) is)
      entry y (Some f) is = ap (λ l. entry_at l y) (lists f is) ∙ sym (ap (read_entry y) is)

      count : (n : ℕ) (o : Option File) → file_at w k ≡ o
          → names_of (with_changed_file w k change) n ≡ names_of w n
      count n None is = ap (λ v. names_of v n) (nothing_changes w k change 0 is)
      count n (Some f) is =
          let all = total_changed (names_in n) w k change f is in
          let same = ap (λ l. sum_by (one_if n) l.entries) (lists f is) in
          omega (arith, all, same)

-- ---- one directory relisted

directory_relisted : (change : Listing → Listing) (b : Body)
    → is_directory (map_body_listing change b) ≡ is_directory b
directory_relisted change (Regular bytes) = refl
directory_relisted change (Symlink target) = refl
directory_relisted change (Directory l) = refl

listing_relisted : (change : Listing → Listing) (b : Body) → is_directory b ≡ true
    → listing_in (map_body_listing change b) ≡ change (listing_in b)
listing_relisted change (Regular bytes) h = cc
listing_relisted change (Symlink target) h = cc
listing_relisted change (Directory l) h = refl

module _ (w : Files) (d : ℕ) (f : File) (there : file_at w d ≡ Some f) (is : is_directory f.body ≡ true)
    (change : Listing → Listing) where
  own_listing : listing_in (map_listing change f).body ≡ change (listing_in f.body)
  own_listing = listing_relisted change f.body is

  -- the changed directory has the entries of its changed listing
  pub relisted_here : (y : List ℕ)
      → directory_entries (with_changed_file w d (map_listing change)) d y
      ≡ entry_at (change (listing_in f.body)) y
  unfolding read_entry
  relisted_here y =
      ap (read_entry y) (changed_here w d (map_listing change) d refl
      ∙ ap (option_map (map_listing change)) there) ∙ ap (λ l. entry_at l y) own_listing

  -- other directories have the entries that they had
  pub relisted_other : (n : ℕ) (y : List ℕ) → n ≢ d
      → directory_entries (with_changed_file w d (map_listing change)) n y ≡ directory_entries w n y
  unfolding read_entry
  relisted_other n y not = ap (read_entry y) (changed_other w d (map_listing change) n not)

  -- a directory has the entries of its listing
  pub own_entries : (y : List ℕ) → directory_entries w d y ≡ entry_at (listing_in f.body) y
  unfolding read_entry
  own_entries y = ap (read_entry y) there

  -- kinds stay
  pub relisted_kinds : (n : ℕ) → kind (with_changed_file w d (map_listing change)) n ≡ kind w n
  relisted_kinds = changed_kinds w d (map_listing change) (λ g _. directory_relisted change g.body)

  -- how often a number is named changes with the listing alone
  pub relisted_names : (n : ℕ)
      → names_of (with_changed_file w d (map_listing change)) n + sum_by (one_if n)
      (listing_in f.body).entries ≡ names_of w n + sum_by (one_if n) (change (listing_in f.body)).entries
  relisted_names n =
      let all = total_changed (names_in n) w d (map_listing change) f there in
      let own = ap (λ l. sum_by (one_if n) l.entries) own_listing in
      omega (arith, all, own)

-- what a name more does
pub record IsNamed (w w' : Files) (d : ℕ) (x : List ℕ) (k cookie : ℕ) : Type 0 where
  -- the name leads to the number with this cookie, and each other name to what it led to
  pub change : ChangesEntry (directory_entries w) (directory_entries w') d x (Some (k, cookie))
  -- all numbers keep their kinds
  pub kinds : (n : ℕ) → kind w' n ≡ kind w n
  -- the number has one name more, and what the name led to before one less
  pub names : (n : ℕ) → names_of w' n + leads n (directory_entries w d x) ≡ names_of w n + one n k
  -- the next number stays
  pub next : w'.next ≡ w.next

-- what a name less does
pub record IsUnnamed (w w' : Files) (d : ℕ) (x : List ℕ) : Type 0 where
  -- the name leads to nothing, and each other name to what it led to
  pub change : ChangesEntry (directory_entries w) (directory_entries w') d x None
  -- all numbers keep their kinds
  pub kinds : (n : ℕ) → kind w' n ≡ kind w n
  -- what the name led to before has one name less
  pub names : (n : ℕ) → names_of w' n + leads n (directory_entries w d x) ≡ names_of w n
  -- the next number stays
  pub next : w'.next ≡ w.next

module _ (w : Files) (d : ℕ) (x : List ℕ) (f : File) (there : file_at w d ≡ Some f)
    (is : is_directory f.body ≡ true) (distinct : HasDistinctNames (listing_in f.body).entries) where
  -- what a name more leaves
  pub named_shape : (k : ℕ) → IsNamed w (with_name w d x k) d x k (listing_in f.body).next
  named_shape k = record {
    change = record {
      here = relisted_here w d f there is (λ l. with_entry l x k) x
          ∙ with_entry_here (listing_in f.body) x k distinct;
      rest = λ n y not. ⊎_elim
          (λ e. by_name n y not e (same_name y x))
          (λ ne. relisted_other w d f there is (λ l. with_entry l x k) n y ne)
          (cases_eq n d);
    };
    kinds = relisted_kinds w d f there is (λ l. with_entry l x k);
    names = λ n.
        let all = relisted_names w d f there is (λ l. with_entry l x k) n in
        let own = names_with_entry n (listing_in f.body) x k in
        let old = ap (leads n) (own_entries w d f there is (λ l. l) x) in
        omega (arith, all, own, old);
    next = changed_next w d (map_listing (λ l. with_entry l x k)) 0;
  }
    where
      by_name : (n : ℕ) (y : List ℕ) → ((n ≡ d) × (y ≡ x) → ⊥) → n ≡ d → (y ≡ x) ⊎ (y ≢ x)
          → directory_entries (with_name w d x k) n y ≡ directory_entries w n y
      by_name n y not e (inl same) = absurd (not (e, same))
      by_name n y not e (inr other) =
          ap (λ m. directory_entries (with_name w d x k) m y) e
          ∙ relisted_here w d f there is (λ l. with_entry l x k) y
          ∙ with_entry_other (listing_in f.body) x k distinct y other
          ∙ sym (ap (λ m. directory_entries w m y) e ∙ own_entries w d f there is (λ l. l) y)

  -- what a name less leaves
  pub unnamed_shape : IsUnnamed w (without_name w d x) d x
  unnamed_shape = record {
    change = record {
      here = relisted_here w d f there is (λ l. without_entry l x) x
          ∙ without_entry_here (listing_in f.body) x distinct;
      rest = λ n y not. ⊎_elim
          (λ e. by_name n y not e (same_name y x))
          (λ ne. relisted_other w d f there is (λ l. without_entry l x) n y ne)
          (cases_eq n d);
    };
    kinds = relisted_kinds w d f there is (λ l. without_entry l x);
    names = λ n.
        let all = relisted_names w d f there is (λ l. without_entry l x) n in
        let own = names_without_entry n (listing_in f.body) x in
        let old = ap (leads n) (own_entries w d f there is (λ l. l) x) in
        omega (arith, all, own, old);
    next = changed_next w d (map_listing (λ l. without_entry l x)) 0;
  }
    where
      by_name : (n : ℕ) (y : List ℕ) → ((n ≡ d) × (y ≡ x) → ⊥) → n ≡ d → (y ≡ x) ⊎ (y ≢ x)
          → directory_entries (without_name w d x) n y ≡ directory_entries w n y
      by_name n y not e (inl same) = absurd (not (e, same))
      by_name n y not e (inr other) =
          ap (λ m. directory_entries (without_name w d x) m y) e
          ∙ relisted_here w d f there is (λ l. without_entry l x) y
          ∙ without_entry_other (listing_in f.body) x distinct y other
          ∙ sym (ap (λ m. directory_entries w m y) e ∙ own_entries w d f there is (λ l. l) y)

-- ---- one file more, and one less, that lists nothing

-- one file more, with no name yet
pub record IsOneMore (w w' : Files) (k : ℕ) (directory : Bool) : Type 0 where
  -- each name of each directory leads to what it led to
  pub directory_entries : (n : ℕ) (y : List ℕ) → directory_entries w' n y ≡ directory_entries w n y
  -- all other numbers keep their kinds
  pub kinds : (n : ℕ) → n ≢ k → kind w' n ≡ kind w n
  -- the new number is there, a directory or not as said
  pub new : kind w' k ≡ Some directory
  -- each number has as many names as before
  pub names : (n : ℕ) → names_of w' n ≡ names_of w n
  -- the next number is the one after it
  pub next : w'.next ≡ k + 1

-- what a new file leaves
pub new_shape : (w : Files) (f : File) → file_at w w.next ≡ None → (listing_in f.body).entries ≡ []
    → IsOneMore w (with_new_file w f) w.next (is_directory f.body)
unfolding read_entry
new_shape w f none empty = record {
  directory_entries = λ n y. ⊎_elim
      (λ e. ap (read_entry y) (new_here w f n e)
      ∙ ap (λ (es : List (List ℕ × (ℕ × ℕ))). lookup (pointwise nat_eq y) es) empty
      ∙ sym (ap (λ m. directory_entries w m y) e ∙ ap (read_entry y) none))
      (λ ne. ap (read_entry y) (new_other w f n ne))
      (cases_eq n w.next);
  kinds = λ n ne. ap (option_map (λ f. is_directory f.body)) (new_other w f n ne);
  new = ap (option_map (λ f. is_directory f.body)) (new_here w f w.next refl);
  names = λ n.
      let all = total_new (names_in n) w f none in
      let own = ap (sum_by (one_if n)) empty in
      omega (arith, all, own);
  next = refl;
}

-- one file less, which lists nothing
pub record IsOneLess (w w' : Files) (k : ℕ) : Type 0 where
  -- each name of each directory leads to what it led to
  pub directory_entries : (n : ℕ) (y : List ℕ) → directory_entries w' n y ≡ directory_entries w n y
  -- all other numbers keep their kinds
  pub kinds : (n : ℕ) → n ≢ k → kind w' n ≡ kind w n
  -- the number isn't there
  pub gone : kind w' k ≡ None
  -- each number has as many names as before
  pub names : (n : ℕ) → names_of w' n ≡ names_of w n
  -- the next number stays
  pub next : w'.next ≡ w.next

-- what a file less leaves
pub gone_shape : (w : Files) (k : ℕ) (f : File) → file_at w k ≡ Some f → (listing_in f.body).entries ≡ []
    → IsOneLess w (without_file w k) k
unfolding read_entry
gone_shape w k f there empty = record {
  directory_entries = λ n y. ⊎_elim
      (λ e. ap (read_entry y) (gone_here w k n e)
      ∙ sym (ap (λ m. directory_entries w m y) e ∙ ap (read_entry y) there
      ∙ ap (λ (es : List (List ℕ × (ℕ × ℕ))). lookup (pointwise nat_eq y) es) empty))
      (λ ne. ap (read_entry y) (gone_other w k n ne))
      (cases_eq n k);
  kinds = λ n ne. ap (option_map (λ f. is_directory f.body)) (gone_other w k n ne);
  gone = ap (option_map (λ f. is_directory f.body)) (gone_here w k k refl);
  names = λ n.
      let all = total_without (names_in n) w k f there in
      let own = ap (sum_by (one_if n)) empty in
      omega (arith, all, own);
  next = refl;
}

-- with a new file within its limits all are so
pub new_files : (w : Files) (f : File) → AllFiles w → IsFile f → AllFiles (with_new_file w f)
new_files w f all fits n g h = ⊎_elim
    (λ e. subst IsFile (some_same (sym (new_here w f n e) ∙ h)) fits)
    (λ ne. all n g (sym (new_other w f n ne) ∙ h))
    (cases_eq n w.next)

-- with a file less all are so
pub gone_files : (w : Files) (k : ℕ) → AllFiles w → AllFiles (without_file w k)
gone_files w k all n g h = ⊎_elim
    (λ e. absurd (none_some (sym (gone_here w k n e) ∙ h)))
    (λ ne. all n g (sym (gone_other w k n ne) ∙ h))
    (cases_eq n k)
