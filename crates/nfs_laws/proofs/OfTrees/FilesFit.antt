-- Edits leave each file one within its limits; what a tree says of directories and of the next number.
-- Serves: trees_stay_trees; room_is_told_before; the laws of `changes` and `frames`.
use Rattle.std.proofs.Common.{◌≡◌, ⊎_elim, ℕ, Bool, true, false, List, Option, Some, None, IsSome, is_some}
use Rattle.std.proofs.Common.{option_map, refl, sym, ap, ◌∙◌, arith}
use Rattle.nfs_spec.specs.nfs_items.Timeval.{Timeval}
use Rattle.nfs_spec.specs.fs_spec.Listing.{Listing, with_entry, without_entry, HasDistinctNames}
use Rattle.nfs_spec.specs.fs_spec.Files.{Body, Regular, Symlink, Directory, File, Files, file_at, listing_in}
use Rattle.nfs_spec.specs.fs_spec.Files.{is_directory, names_of}
use Rattle.nfs_spec.specs.fs_spec.Trees.{IsBody, IsTime, IsFile, IsFileTree}
use Rattle.nfs_spec.proofs.fs_spec.Walks.{none_some}
use Rattle.nfs_spec.proofs.fs_spec.Reached.{distinct_in, entry_of_number}
use Rattle.std.proofs.lemmas.Bool.{cases_lt}
use Rattle.nfs_spec.specs.fs_spec.Changes.Edits.{with_changed_file, map_listing, map_body_listing}
use Rattle.nfs_spec.proofs.fs_spec.Cookies.{rising_pushed, rising_removed}
use Rattle.nfs_spec.proofs.fs_spec.OfChanges.Listings.{with_entry_distinct, without_entry_distinct}
use Rattle.nfs_spec.proofs.fs_spec.OfChanges.Shapes.{kind, AllFiles, IsSameShape, same_shape, changed_files}
use Rattle.nfs_spec.specs.Changes.{with_mtime, with_ctime, touch, touch_ctime}

-- a directory is a file that lists
pub dir_file : (w : Files) (n : ℕ) → kind w n ≡ Some true
    → (f : File) × (file_at w n ≡ Some f) × (is_directory f.body ≡ true)
dir_file w n h = by (file_at w n) refl
  where
    same : {a b : Bool} → Some a ≡ Some b → a ≡ b
    same h = cc

    by : (o : Option File) → file_at w n ≡ o
        → (f : File) × (file_at w n ≡ Some f) × (is_directory f.body ≡ true)
    by None e = absurd (none_some (sym (ap (option_map (λ f. is_directory f.body)) e) ∙ h))
    by (Some f) e = (f, e, same (sym (ap (option_map (λ f. is_directory f.body)) e) ∙ h))

-- a file that lists names makes its number a directory's
pub is_dir : (w : Files) (n : ℕ) (f : File) → file_at w n ≡ Some f → is_directory f.body ≡ true
    → kind w n ≡ Some true
is_dir w n f there is = ap (option_map (λ f. is_directory f.body)) there ∙ ap (λ b. Some b) is

-- a number with a file has one
pub is_there : (w : Files) (n : ℕ) (f : File) → file_at w n ≡ Some f → IsSome (file_at w n)
is_there w n f there = ap is_some there

-- what isn't there isn't there
pub missing : {A : Type 0} (o : Option A) → o ≡ None → IsSome o → ⊥
missing o e h = tf (sym (ap is_some e) ∙ h)
  where
    tf : false ≡ true → ⊥
    tf h = cc

-- the next number is no file's, and has no name
pub next_free : (w : Files) → IsFileTree w → file_at w w.next ≡ None
next_free w tree = by (file_at w w.next) refl
  where
    by : (o : Option File) → file_at w w.next ≡ o → file_at w w.next ≡ None
    by None e = e
    by (Some f) e = absurd (omega (arith, tree.numbers w.next (is_there w w.next f e)))

-- and no entry names it
pub next_unnamed : (w : Files) → IsFileTree w → names_of w w.next ≡ 0
next_unnamed w tree = ⊎_elim
    (λ some. let p = entry_of_number w tree w.next some in
    absurd (missing (file_at w w.next) (next_free w tree) (tree.tree.named p.0 p.1 w.next p.2 p.3)))
    (λ none. omega (arith, none))
    (cases_lt 0 (names_of w w.next))

-- ---- times

-- a file whose mtime and ctime are set to a time stays one
pub touched_fits : (now : Timeval) → IsTime now → (f : File) → IsFile f → IsFile (with_mtime now f)
touched_fits now time f fits =
    record { mode = fits.mode; atime = fits.atime; mtime = time; ctime = time; body = fits.body }

-- a file whose ctime is set to a time stays one
pub marked_fits : (now : Timeval) → IsTime now → (f : File) → IsFile f → IsFile (with_ctime now f)
marked_fits now time f fits =
    record { mode = fits.mode; atime = fits.atime; mtime = fits.mtime; ctime = time; body = fits.body }

-- times change nothing of the tree's shape
pub touch_shape : (now : Timeval) (w : Files) (d : ℕ) → IsSameShape w (touch now w d)
touch_shape now w d = same_shape w d (with_mtime now) (λ f _. refl) (λ f _. refl)

-- neither does ctime alone
pub mark_shape : (now : Timeval) (w : Files) (d : ℕ) → IsSameShape w (touch_ctime now w d)
mark_shape now w d = same_shape w d (with_ctime now) (λ f _. refl) (λ f _. refl)

-- times leave each file one
pub touch_files : (now : Timeval) (w : Files) (d : ℕ) → IsTime now → AllFiles w → AllFiles (touch now w d)
touch_files now w d time all =
    changed_files w d (with_mtime now) all (λ f h. touched_fits now time f (all d f h))

-- so does ctime alone
pub mark_files : (now : Timeval) (w : Files) (d : ℕ) → IsTime now → AllFiles w
    → AllFiles (touch_ctime now w d)
mark_files now w d time all =
    changed_files w d (with_ctime now) all (λ f h. marked_fits now time f (all d f h))

-- ---- names

named_body : (x : List ℕ) (k : ℕ) (b : Body) → IsBody b → IsBody (map_body_listing (λ l. with_entry l x k) b)
named_body x k (Regular bytes) h = h
named_body x k (Symlink target) h = h
named_body x k (Directory l) h =
    (rising_pushed 3 _ l.next x k (rising_removed 3 _ l.entries l.next h.0), with_entry_distinct l x k h.1)

unnamed_body : (x : List ℕ) (b : Body) → IsBody b → IsBody (map_body_listing (λ l. without_entry l x) b)
unnamed_body x (Regular bytes) h = h
unnamed_body x (Symlink target) h = h
unnamed_body x (Directory l) h = (rising_removed 3 _ l.entries l.next h.0, without_entry_distinct l x h.1)

relisted_fits : (change : Listing → Listing) (f : File) → IsFile f → IsBody (map_body_listing change f.body)
    → IsFile (map_listing change f)
relisted_fits change f fits body =
    record { mode = fits.mode; atime = fits.atime; mtime = fits.mtime; ctime = fits.ctime; body = body }

-- a name more leaves each file one
pub named_files : (w : Files) (d : ℕ) (x : List ℕ) (k : ℕ) → AllFiles w
    → AllFiles (with_changed_file w d (map_listing (λ l. with_entry l x k)))
named_files w d x k all =
    changed_files w d (map_listing (λ l. with_entry l x k)) all
    (λ f h. relisted_fits (λ l. with_entry l x k) f (all d f h) (named_body x k f.body (all d f h).body))

-- a name less leaves each file one
pub unnamed_files : (w : Files) (d : ℕ) (x : List ℕ) → AllFiles w
    → AllFiles (with_changed_file w d (map_listing (λ l. without_entry l x)))
unnamed_files w d x all =
    changed_files w d (map_listing (λ l. without_entry l x)) all
    (λ f h. relisted_fits (λ l. without_entry l x) f (all d f h) (unnamed_body x f.body (all d f h).body))

-- a directory's names differ
pub distinct_names : (w : Files) (d : ℕ) (f : File) → AllFiles w → file_at w d ≡ Some f
    → HasDistinctNames (listing_in f.body).entries
distinct_names w d f all there = distinct_in f.body (all d f there).body
