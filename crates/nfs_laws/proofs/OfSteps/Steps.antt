-- What one check that was not refused says.
-- Serves: every inversion of this crate; the checks' laws in nfs_error_laws.
use Rattle.std.proofs.Common.{◌≡◌, ℕ, ◌≤◌, Bool, true, false, List, [], ◌∷◌, length, Option, Some, None}
use Rattle.std.proofs.Common.{Result, Ok, Err, option_map, option_and_then, refl, sym, ap, subst, ◌∙◌, arith}
use Rattle.std.specs.Prelude.{◌&&◌, nat_le, is_none}
use Rattle.std.specs.Option.{option_map_or}
use Rattle.std.proofs.lemmas.Bool.{leb-true, and_parts}
use Rattle.nfs_spec.specs.nfs_items.Caller.{Caller}
use Rattle.nfs_spec.specs.nfs_items.declared.stat.Stat.{Stat}
use Rattle.nfs_spec.specs.nfs_items.declared.stat.Stat.TheVariants as stats
use Rattle.nfs_spec.specs.fs_spec.Listing.{Listing, entry_at}
use Rattle.nfs_spec.specs.fs_spec.Names.{is_name}
use Rattle.nfs_spec.specs.fs_spec.Files.{Body, Regular, Symlink, Directory, File, Files, file_at, listing_in}
use Rattle.nfs_spec.specs.fs_spec.Files.{listing, is_directory, directory_entries}
use Rattle.nfs_spec.proofs.fs_spec.Walks.{none_some, some_same}
use Rattle.nfs_spec.specs.ProcedureChecks.{◌>>=◌, ok_or, listing_or, check, check_size, check_edit}
use Rattle.nfs_spec.specs.ProcedureChecks.{check_free, NumberedDir, file_of, dir_of, number_at, bytes_of}
use Rattle.nfs_spec.specs.ProcedureChecks.{target_of, may_search, may_write}
use Rattle.nfs_laws.specs.Steps.Granted.{IsFound, MayEdit}

-- ---- results

-- equal results hold equal values
pub ok_same : {A : Type 0} {a b : A} → ◌≡◌ {A = Result A Stat} (Ok a) (Ok b) → a ≡ b
ok_same h = cc

-- equal effects have one answer
pub same_answer : {A : Type 0} {x y : A × Files} → ◌≡◌ {A = Result (A × Files) Stat} (Ok x) (Ok y) → y.0 ≡ x.0
same_answer {A} h = ap (λ (z : A × Files). z.0) (sym (ok_same h))

-- equal effects leave the same files
pub same_files : {A : Type 0} {x y : A × Files} → ◌≡◌ {A = Result (A × Files) Stat} (Ok x) (Ok y) → y.1 ≡ x.1
same_files {A} h = ap (λ (z : A × Files). z.1) (sym (ok_same h))

-- a refusal is no Ok
pub no_error : {A : Type 0} {e : Stat} {a : A} → Err e ≡ Ok a → ⊥
no_error h = cc

-- two steps were granted only if the first was, and then the second
pub bind_ok : {A B : Type 0} (r : Result A Stat) (f : A → Result B Stat) (x : B) → (r >>= f) ≡ Ok x
    → (a : A) × (r ≡ Ok a) × (f a ≡ Ok x)
bind_ok (Ok a) f x h = (a, refl, h)
bind_ok (Err e) f x h = absurd (no_error h)

-- ---- checks

-- a test that was passed holds
pub check_ok : (b : Bool) (e : Stat) (u : Unit {0}) → check b e ≡ Ok u → b ≡ true
check_ok true e u h = refl
check_ok false e u h = absurd (no_error h)

-- a size that was let through is within the limit of a file
pub size_ok : (size : ℕ) (u : Unit {0}) → check_size size ≡ Ok u → size ≤ 1048576
size_ok size u h = leb-true size 1048576 (check_ok (nat_le size 1048576) stats.FBig u h)

-- what was found is there
pub found_ok : {A : Type 0} (e : Stat) (o : Option A) (x : A) → ok_or e o ≡ Ok x → o ≡ Some x
found_ok e None x h = absurd (no_error h)
found_ok e (Some y) x h = ap (λ z. Some z) (ok_same h)

-- a file that was found is there
pub file_ok : (w : Files) (n : ℕ) (f : File) → file_of w n ≡ Ok f → file_at w n ≡ Some f
file_ok w n f h = found_ok stats.Stale (file_at w n) f h

-- ---- bodies by their kind

-- only a regular file gives bytes
pub bytes_ok : (b : Body) (bytes : List ℕ) → bytes_of b ≡ Ok bytes → b ≡ Regular bytes
bytes_ok (Regular own) bytes h = ap (λ x. Regular x) (ok_same h)
bytes_ok (Symlink target) bytes h = absurd (no_error h)
bytes_ok (Directory l) bytes h = absurd (no_error h)

-- only a link gives a target
pub target_ok : (b : Body) (target : List ℕ) → target_of b ≡ Ok target → b ≡ Symlink target
target_ok (Regular own) target h = absurd (no_error h)
target_ok (Symlink own) target h = ap (λ x. Symlink x) (ok_same h)
target_ok (Directory l) target h = absurd (no_error h)

-- only a directory gives a listing
pub listing_ok : (e : Stat) (b : Body) (l : Listing) → listing_or e b ≡ Ok l → b ≡ Directory l
listing_ok e (Regular bytes) l h = absurd (no_error h)
listing_ok e (Symlink target) l h = absurd (no_error h)
listing_ok e (Directory m) l h = ap (λ x. Directory x) (ok_same h)

-- what gives a listing is a directory, and lists that
pub directory_ok : (e : Stat) (b : Body) (l : Listing) → listing_or e b ≡ Ok l
    → (is_directory b ≡ true) × (listing_in b ≡ l)
directory_ok e b l h = let own = listing_ok e b l h in (ap is_directory own, ap listing_in own)

-- what is no directory lists nothing
pub no_entries : (b : Body) → is_directory b ≡ false → (listing_in b).entries ≡ []
no_entries (Regular bytes) h = refl
no_entries (Symlink target) h = refl
no_entries (Directory l) h = absurd (tf h)
  where
    tf : true ≡ false → ⊥
    tf h = cc

-- a list of no length is empty
pub no_length : {A : Type 0} (es : List A) → length es ≡ 0 → es ≡ []
no_length [] h = refl
no_length (e ∷ es) h = absurd (omega arith)

-- ---- directories and names

-- a directory that was found is there, and is one
pub dir_ok : (w : Files) (n : ℕ) (d : NumberedDir) → dir_of w n ≡ Ok d → IsFound w n d
dir_ok w n d h =
    let a = bind_ok (file_of w n) _ d h in
    let b = bind_ok (listing_or stats.NotDir a.0.body) _ d a.2 in
    let l = directory_ok stats.NotDir a.0.body b.0 b.1 in
    subst (IsFound w n) (ok_same b.2)
    (record { number = refl; there = file_ok w n a.0 a.1; directory = l.0; listing = l.1 })

-- what a directory has at a name, by what was found
pub entry_found : (w : Files) (dir : ℕ) (d : NumberedDir) → IsFound w dir d → (name : List ℕ)
    → directory_entries w dir name ≡ entry_at d.listing name
entry_found w dir d found name =
    ap (option_and_then (λ f. entry_at (listing_in f.body) name)) found.there
    ∙ ap (λ l. entry_at l name) found.listing

-- what the number of a file that is there lists
pub listing_there : (w : Files) (n : ℕ) (f : File) → file_at w n ≡ Some f → listing w n ≡ listing_in f.body
listing_there w n f there =
    ap (λ (o : Option File). option_map_or (λ f. listing_in f.body) o
    (record { next = 0; entries = [] })) there

-- what the number of a directory that was found lists
pub listing_found : (w : Files) (dir : ℕ) (d : NumberedDir) → IsFound w dir d → listing w dir ≡ d.listing
listing_found w dir d found = listing_there w dir d.file found.there ∙ found.listing

-- who may change a name in a directory that was found
pub edit_ok : (w : Files) (who : Caller) (dir : ℕ) (d : NumberedDir) (name : List ℕ) (u : Unit {0})
    → IsFound w dir d → check_edit who d name ≡ Ok u → MayEdit w who dir name
edit_ok w who dir d name u found h =
    let a = bind_ok (check (is_name name) stats.Acces) _ u h in
    let both = and_parts (may_search who d.file) (may_write who d.file)
    (check_ok (may_search who d.file && may_write who d.file) stats.Acces u a.2) in
    record {
      file = d.file;
      there = found.there;
      directory = found.directory;
      named = check_ok (is_name name) stats.Acces a.0 a.1;
      searched = both.0;
      written = both.1;
    }

-- a name that was let through stands for nothing
pub free_ok : (d : NumberedDir) (name : List ℕ) (u : Unit {0}) → check_free d name ≡ Ok u
    → entry_at d.listing name ≡ None
free_ok d name u h =
    none (entry_at d.listing name) (check_ok (is_none (entry_at d.listing name)) stats.Exist u h)
  where
    none : (o : Option (ℕ × ℕ)) → is_none o ≡ true → o ≡ None
    none None h = refl
    none (Some p) h = absurd (tf h)
      where
        tf : false ≡ true → ⊥
        tf h = cc

-- a number that was found stands at the name, with a cookie
pub number_ok : (d : NumberedDir) (name : List ℕ) (n : ℕ) → number_at d name ≡ Ok n
    → (c : ℕ) × (entry_at d.listing name ≡ Some (n, c))
number_ok d name n h =
    by (entry_at d.listing name) (found_ok stats.NoEnt (option_map (λ e. e.0) (entry_at d.listing name)) n h)
  where
    by : (o : Option (ℕ × ℕ)) → option_map (λ e. e.0) o ≡ Some n → (c : ℕ) × (o ≡ Some (n, c))
    by None g = absurd (none_some g)
    by (Some p) g = (p.1, ap (λ m. Some (m, p.1)) (some_same g))
