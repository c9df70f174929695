-- What is set, written or made is a file within its limits.
-- Serves: trees_stay_trees.
use Rattle.std.proofs.Common.{◌≡◌, ℕ, ◌+◌, ◌%◌, ◌<◌, ◌≤◌, Bool, true, false, cond, List, [], length}
use Rattle.std.proofs.Common.{replicate, Option, Some, None, eqb, ltb, refl, sym, subst, arith}
use Rattle.std.specs.Prelude.{unwrap_or, ◌||◌, is_some}
use Rattle.std.specs.List.{IsDistinct}
use Rattle.std.proofs.lemmas.Bool.{ltb-false}
use Rattle.std.proofs.lemmas.List.{length-replicate}
use Rattle.nfs_spec.specs.nfs_items.Timeval.{Timeval}
use Rattle.nfs_spec.specs.nfs_items.Caller.{Caller}
use Rattle.nfs_spec.specs.fs_spec.Listing.{HasDistinctNames}
use Rattle.nfs_spec.specs.fs_spec.Files.{Body, Regular, Symlink, Directory, File, listing_in, is_directory}
use Rattle.nfs_spec.specs.fs_spec.Trees.{IsBody, IsTime, IsFile}
use Rattle.nfs_spec.proofs.fs_spec.Walks.{none_some, some_same}
use Rattle.nfs_spec.specs.nfs_items.declared.sattr.Sattr.{Sattr}
use Rattle.nfs_spec.specs.Sattr.{GivenFields, given_mode, given_time, given_fields, gives_any, no_fields}
use Rattle.nfs_spec.specs.Changes.{body_with_length, apply_fields, new_file}
use Rattle.nfs_spec.specs.Procedures.{with_bytes_written}
use Rattle.nfs_laws.specs.Steps.Granted.{ResizeOk, new_regular, new_directory, new_link}
use Rattle.nfs_laws.specs.Laws.{AreValidFields}
use Rattle.nfs_laws.proofs.Bytes.{length-resized, length-written}

-- what holds of a value that is given and of the other holds of the one that is taken
pub unwrapped : {A : Type 0} (P : A → Type 0) (o : Option A) (d : A) → ((x : A) → o ≡ Some x → P x) → P d
    → P (unwrap_or o d)
unwrapped P None d some none = none
unwrapped P (Some x) d some none = some x refl

-- ---- what is asked

mode_given : (n mode : ℕ) → given_mode n ≡ Some mode → mode < 4096
mode_given n mode = by (eqb n 4294967295 || eqb n 65535)
  where
    by : (b : Bool) → cond b None (Some (n % 4096)) ≡ Some mode → mode < 4096
    by true h = absurd (none_some h)
    by false h = let same = some_same h in omega arith

time_given : (now t u : Timeval) → IsTime now → given_time now t ≡ Some u → IsTime u
time_given now t u time = by (eqb t.seconds 4294967295) (ltb 999999 t.microseconds) refl
  where
    by : (a b : Bool) → ltb 999999 t.microseconds ≡ b → cond a None (cond b (Some now) (Some t)) ≡ Some u
        → IsTime u
    by true b e h = absurd (none_some h)
    by false true e h = subst IsTime (some_same h) time
    by false false e h = let small = ltb-false 999999 t.microseconds e in
        subst IsTime (some_same h) (omega (arith, small))

-- what a caller asks for may be asked for
pub given_are_valid : (now : Timeval) (s : Sattr) → IsTime now → AreValidFields (given_fields now s)
given_are_valid now s time = record {
  mode = λ mode h. mode_given s.mode mode h;
  atime = λ t h. time_given now s.atime t time h;
  mtime = λ t h. time_given now s.mtime t time h;
}

-- ---- attributes

-- another size leaves what is listed
pub set_lists : (size : Option ℕ) (b : Body) → listing_in (body_with_length size b) ≡ listing_in b
set_lists None b = refl
set_lists (Some size) (Regular bytes) = refl
set_lists (Some size) (Symlink target) = refl
set_lists (Some size) (Directory l) = refl

-- another size leaves the kind
pub set_keeps : (size : Option ℕ) (b : Body) → is_directory (body_with_length size b) ≡ is_directory b
set_keeps None b = refl
set_keeps (Some size) (Regular bytes) = refl
set_keeps (Some size) (Symlink target) = refl
set_keeps (Some size) (Directory l) = refl

-- a body of another size is within its limit
pub resized_fits : (who : Caller) (f : File) (size : Option ℕ) → ((n : ℕ) → size ≡ Some n → ResizeOk who f n)
    → IsBody f.body → IsBody (body_with_length size f.body)
resized_fits who f None ok fits = fits
resized_fits who f (Some size) ok fits =
    let o = ok size refl in
    subst (λ b. IsBody (body_with_length (Some size) b)) (sym o.regular)
    (omega (arith, length-resized size o.bytes, o.fits))

-- a file with what is given set is one
pub set_fits : (now : Timeval) → IsTime now → (a : GivenFields) → AreValidFields a → (f : File) → IsFile f
    → IsBody (body_with_length a.size f.body) → IsFile (apply_fields now a f)
set_fits now time a is f fits body = record {
  mode = unwrapped (λ m. m < 4096) a.mode f.mode is.mode fits.mode;
  atime = unwrapped IsTime a.atime f.atime is.atime fits.atime;
  mtime = unwrapped IsTime a.mtime _ is.mtime (either (is_some a.size) now f.mtime time fits.mtime);
  ctime = either (gives_any a) now f.ctime time fits.ctime;
  body = body;
}
  where
    either : (b : Bool) (t u : Timeval) → IsTime t → IsTime u → IsTime (cond b t u)
    either true t u ht hu = ht
    either false t u ht hu = hu

-- a new file is one where its body is within its limit
new_fits : (who : Caller) (now : Timeval) → IsTime now → (a : GivenFields) → AreValidFields a → (mode : ℕ)
    → mode < 4096 → (b : Body) → IsBody b → IsFile (new_file who now a mode b)
new_fits who now time a is mode small b fits = record {
  mode = unwrapped (λ m. m < 4096) a.mode mode is.mode small;
  atime = unwrapped IsTime a.atime now is.atime time;
  mtime = unwrapped IsTime a.mtime now is.mtime time;
  ctime = time;
  body = fits;
}

-- a file with bytes written is one
pub rewritten_fits : (now : Timeval) → IsTime now → (offset : ℕ) (new old : List ℕ) (f : File)
    → f.body ≡ Regular old → IsFile f → offset + length new ≤ 1048576
    → IsFile (with_bytes_written now offset new old f)
rewritten_fits now time offset new old f own fits le = record {
  mode = fits.mode;
  atime = fits.atime;
  mtime = time;
  ctime = time;
  body = length-written offset new old 1048576 le (subst IsBody own fits.body);
}

-- ---- what CREATE, MKDIR and SYMLINK make

no_names : HasDistinctNames []
unfolding IsDistinct
no_names = tt

none_are_valid : AreValidFields no_fields
none_are_valid = record { mode = λ m h. cc; atime = λ t h. cc; mtime = λ t h. cc }

module _ (who : Caller) (now : Timeval) (time : IsTime now) where
  -- what CREATE makes is a file
  pub regular_fits : (a : GivenFields) → AreValidFields a → unwrap_or a.size 0 ≤ 1048576
      → IsFile (new_regular who now a)
  regular_fits a is le =
      let size = unwrap_or a.size 0 in
      new_fits who now time a is 420 (omega arith) (Regular (replicate size 0))
      (omega (arith, length-replicate {A = ℕ} size 0, le))

  -- what MKDIR makes is a file
  pub directory_fits : (a : GivenFields) → AreValidFields a → IsFile (new_directory who now a)
  directory_fits a is =
      new_fits who now time a is 493 (omega arith) (Directory (record { next = 3; entries = [] }))
      (omega arith, no_names)

  -- what SYMLINK makes is a file
  pub link_fits : (target : List ℕ) → length target ≤ 1024 → IsFile (new_link who now target)
  link_fits target short =
      new_fits who now time no_fields none_are_valid 511 (omega arith) (Symlink target) short
