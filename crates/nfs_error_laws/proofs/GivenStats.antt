-- No step of any procedure is refused with IO, NODEV, ROFS, NAMETOOLONG, DQUOT or WFLUSH: `Gives` goes
-- through each of its steps, whatever the files are.
-- Serves: some_stats_are_never_given.
use Rattle.std.proofs.Common.{◌≡◌, ◌≢◌, ℕ, Bool, true, false, List, [], Option, Some, None, Result, Ok, Err}
use Rattle.std.proofs.Common.{option_map, refl, sym, ap, subst, ◌∙◌}
use Rattle.std.specs.Prelude.{if◌then◌else◌}
use Rattle.std.specs.Option.{option_map_or}
use Rattle.nfs_items.specs.Timeval.{Timeval}
use Rattle.nfs_items.specs.Caller.{Caller}
use Rattle.nfs_items.specs.declared.stat.Stat.{Stat}
use Rattle.nfs_items.specs.declared.stat.Stat.TheVariants as stats
use Rattle.fs_spec.specs.Files.{Body, Regular, Symlink, Directory, File, Files, file_at}
use Rattle.nfs_spec.specs.ProcedureChecks.{◌>>=◌, NumberedDir, ok_or, file_of, listing_or, dir_of, check}
use Rattle.nfs_spec.specs.ProcedureChecks.{check_edit, number_at, bytes_of, target_of}
use Rattle.nfs_spec.specs.Sattr.{GivenFields, given_fields, no_fields}
use Rattle.nfs_spec.specs.Changes.{check_owner, check_resize, new_file, Effect}
use Rattle.nfs_spec.specs.Effects.{attributes_at, number_at_name, getattr, lookup}
use Rattle.nfs_spec.specs.Procedures.{set_attributes, read_link, read, write, create_over, create_new, create}
use Rattle.nfs_spec.specs.Procedures.{make, link, remove, remove_dir, check_target, rename, read_dir, stat_fs}
use Rattle.nfs_types.specs.Calls as calls
use Rattle.nfs_types.specs.Calls.{Call, Answer}
use Rattle.nfs_spec.specs.NfsCalls.{answer_and_files, with_attributes, with_handle, without_number}
use Rattle.nfs_spec.specs.NfsCalls.{number_for, call_does}
use Rattle.nfs_spec.specs.LawTerms.{stat_in}
use Rattle.nfs_laws.specs.Steps.Answers.{refusal_in}
use Rattle.fs_spec.specs.Listing.{entry_at}
use Rattle.fs_spec.proofs.Walks.{none_some, some_same}
use Rattle.nfs_items.specs.Handle.{number_in}
use Rattle.nfs_error_laws.proofs.StepsInTurn.{no_some}

-- whether a stat is none of IO, NODEV, ROFS, NAMETOOLONG, DQUOT and WFLUSH
abbrev is_ever_given : Stat → Bool
is_ever_given stats.Io = false
is_ever_given stats.NoDev = false
is_ever_given stats.RoFs = false
is_ever_given stats.NameTooLong = false
is_ever_given stats.DQuot = false
is_ever_given stats.WFlush = false
is_ever_given _ = true

abbrev IsGiven : Stat → Type 0
IsGiven e = is_ever_given e ≡ true

-- it is none of the six, one by one
abbrev pub IsNoneOfSix : Stat → Type 0
IsNoneOfSix e =
    (e ≢ stats.Io) × (e ≢ stats.NoDev) × (e ≢ stats.RoFs) × (e ≢ stats.NameTooLong) × (e ≢ stats.DQuot)
    × (e ≢ stats.WFlush)

none_of_six : (e : Stat) → IsGiven e → IsNoneOfSix e
none_of_six e h = (
  differs stats.Io refl,
  differs stats.NoDev refl,
  differs stats.RoFs refl,
  differs stats.NameTooLong refl,
  differs stats.DQuot refl,
  differs stats.WFlush refl,
)
  where
    differs : (s : Stat) → is_ever_given s ≡ false → e ≢ s
    differs s out is = no_some (sym out ∙ sym (ap is_ever_given is) ∙ h)

-- a result is Ok, or its stat is one that is given
abbrev Gives : {A : Type 0} → Result A Stat → Type 0
Gives (Ok x) = Unit {0}
Gives (Err e) = IsGiven e

one_after : {A B : Type 0} (r : Result A Stat) (f : A → Result B Stat) → Gives r → ((a : A) → Gives (f a))
    → Gives (r >>= f)
one_after (Ok a) f h k = k a
one_after (Err e) f h k = h

given_check : (b : Bool) (e : Stat) → IsGiven e → Gives (check b e)
given_check true e h = tt
given_check false e h = h

given_found : {A : Type 0} (e : Stat) (o : Option A) → IsGiven e → Gives (ok_or e o)
given_found e None h = h
given_found e (Some x) h = tt

given_file : (w : Files) (n : ℕ) → Gives (file_of w n)
given_file w n = given_found stats.Stale (file_at w n) refl

given_listing : (e : Stat) (b : Body) → IsGiven e → Gives (listing_or e b)
given_listing e (Regular bytes) h = h
given_listing e (Symlink target) h = h
given_listing e (Directory l) h = tt

given_bytes : (b : Body) → Gives (bytes_of b)
given_bytes (Regular bytes) = tt
given_bytes (Symlink target) = refl
given_bytes (Directory l) = refl

given_target : (b : Body) → Gives (target_of b)
given_target (Regular bytes) = refl
given_target (Symlink target) = tt
given_target (Directory l) = refl

given_ok : {A : Type 0} (x : A) → Gives (Ok x)
given_ok x = tt

given_dir : (w : Files) (n : ℕ) → Gives (dir_of w n)
given_dir w n = search (one_after, given_file, given_listing, given_ok)

given_if : {A : Type 0} (b : Bool) (r s : Result A Stat) → Gives r → Gives s → Gives (if b then r else s)
given_if true r s h k = h
given_if false r s h k = k

given_owner : (who : Caller) (f : File) (a : GivenFields) → Gives (check_owner who f a)
given_owner who f a = search (one_after, given_check)

given_resize : (who : Caller) (f : File) (size : Option ℕ) → Gives (check_resize who f size)
given_resize who f None = tt
given_resize who f (Some size) = search (one_after, given_bytes, given_check)

given_edit : (who : Caller) (d : NumberedDir) (name : List ℕ) → Gives (check_edit who d name)
given_edit who d name = search (one_after, given_check)

given_number : (d : NumberedDir) (name : List ℕ) → Gives (number_at d name)
given_number d name = given_found stats.NoEnt (option_map (λ e. e.0) (entry_at d.listing name)) refl

given_target_check : (w : Files) (f : File) (t : Option ℕ) → Gives (check_target w f t)
given_target_check w f None = tt
given_target_check w f (Some n) = search (one_after, given_file, given_check)

module _ (w : Files) (who : Caller) (now : Timeval) where
  given_set : (n : ℕ) (a : GivenFields) → Gives (set_attributes w who now n a)
  given_set n a = search (one_after, given_file, given_owner, given_resize, given_if, given_check) depth 16

  given_read_link : (n : ℕ) → Gives (read_link w n)
  given_read_link n = search (one_after, given_file, given_target)

  given_read : (n offset count : ℕ) → Gives (read w who n offset count)
  given_read n offset count = search (one_after, given_file, given_bytes, given_check)

  given_write : (n offset : ℕ) (new : List ℕ) → Gives (write w who now n offset new)
  given_write n offset new = search (one_after, given_file, given_bytes, given_check, given_if) depth 16

  given_over : (a : GivenFields) (n : ℕ) → Gives (create_over w who now a n)
  given_over a n = search (one_after, given_file, given_check, given_set)

  given_new : (d : NumberedDir) (name : List ℕ) (a : GivenFields) → Gives (create_new w who now d name a)
  given_new d name a = search (one_after, given_check)

  given_either : (a : GivenFields) (d : NumberedDir) (name : List ℕ) (o : Option (ℕ × ℕ))
      → Gives (option_map_or (λ e. create_over w who now a e.0) o (create_new w who now d name a))
  given_either a d name None = given_new d name a
  given_either a d name (Some e) = given_over a e.0

  given_create : (dir : ℕ) (name : List ℕ) (a : GivenFields) → Gives (create w who now dir name a)
  given_create dir name a = search (one_after, given_dir, given_check, given_either)

  given_make : (dir : ℕ) (name : List ℕ) (f : File) → Gives (make w who now dir name f)
  given_make dir name f = search (one_after, given_dir, given_edit, given_check) depth 16

  given_link : (from dir : ℕ) (name : List ℕ) → Gives (link w who now from dir name)
  given_link from dir name = search (one_after, given_file, given_dir, given_edit, given_check) depth 16

  given_remove : (dir : ℕ) (name : List ℕ) → Gives (remove w who now dir name)
  given_remove dir name =
      search (one_after, given_dir, given_edit, given_number, given_file, given_check) depth 16

  given_remove_dir : (dir : ℕ) (name : List ℕ) → Gives (remove_dir w who now dir name)
  given_remove_dir dir name =
      search (one_after, given_dir, given_edit, given_number, given_file, given_listing, given_check) depth 16

  given_rename : (from : ℕ) (from_name : List ℕ) (to : ℕ) (to_name : List ℕ)
      → Gives (rename w who now from from_name to to_name)
  given_rename from from_name to to_name =
      search (
        one_after,
        given_dir,
        given_edit,
        given_number,
        given_file,
        given_if,
        given_check,
        given_target_check,
      ) depth 16

  given_read_dir : (n cookie count : ℕ) → Gives (read_dir w who n cookie count)
  given_read_dir n cookie count = search (one_after, given_dir, given_check)

  given_figures : (n : ℕ) → Gives (stat_fs w n)
  given_figures n = search (one_after, given_file, given_ok)

  given_attributes : (v : Files) (n : ℕ) → Gives (attributes_at v n)
  given_attributes v n = search (one_after, given_file, given_ok)

  given_getattr : (file : List ℕ) → Gives (getattr w file)
  given_getattr file =
      one_after _ _ (given_found stats.Stale (number_in w.fsid file) refl) (given_attributes w)

  given_name : (dir : ℕ) (name : List ℕ) → Gives (number_at_name w who dir name)
  given_name dir name = search (one_after, given_file, given_listing, given_if, given_found)

  given_lookup : (dir name : List ℕ) → Gives (lookup w who dir name)
  given_lookup dir name = search (one_after, given_found, given_name, given_attributes, given_ok)

  -- ---- answers

  abbrev Tells : Answer → Type 0
  Tells answer = (stat : Stat) → refusal_in answer ≡ Some stat → IsNoneOfSix stat

  tells : {A : Type 0} (r : Result A Stat) → Gives r → (stat : Stat) → stat_in r ≡ Some stat
      → IsNoneOfSix stat
  tells (Ok x) h stat is = absurd (none_some is)
  tells (Err e) h stat is = subst IsNoneOfSix (some_same is) (none_of_six e h)

  told_tells : {A : Type 0} (say : Result A Stat → Answer)
      → ((r : Result A Stat) → refusal_in (say r) ≡ stat_in r) → (e : Effect A) → Gives e
      → Tells (answer_and_files say w e).0
  told_tells say says (Ok x) h stat is = absurd (none_some (sym (says (Ok x.0)) ∙ is))
  told_tells say says (Err e) h stat is =
      subst IsNoneOfSix (some_same (sym (says (Err e)) ∙ is)) (none_of_six e h)

  given_with_attributes : (n : ℕ) (e : Effect (Unit {0})) → Gives e → Gives (with_attributes n e)
  given_with_attributes n e h = search (one_after, h, given_attributes, given_ok) depth 16

  given_with_handle : (e : Effect ℕ) → Gives e → Gives (with_handle e)
  given_with_handle e h = search (one_after, h, given_attributes, given_ok) depth 16

  given_without_number : (e : Effect ℕ) → Gives e → Gives (without_number e)
  given_without_number e h = search (one_after, h, given_ok)

  -- a call's refusal is none of the six
  pub answers : (call : Call) → Tells (call_does w who now call).0
  answers calls.Null = λ stat is. absurd (none_some is)
  answers (calls.Getattr file) = tells (getattr w file) (given_getattr file)
  answers (calls.Setattr file s) =
      told_tells calls.Attributes (λ r. refl) _
      (given_with_attributes (number_for w file) _ (given_set (number_for w file) (given_fields now s)))
  answers calls.Root = λ stat is. absurd (none_some is)
  answers (calls.Lookup dir name) = tells (lookup w who dir name) (given_lookup dir name)
  answers (calls.Readlink file) =
      tells (read_link w (number_for w file)) (given_read_link (number_for w file))
  answers (calls.Read file offset count) =
      tells (read w who (number_for w file) offset count) (given_read (number_for w file) offset count)
  answers calls.Writecache = λ stat is. absurd (none_some is)
  answers (calls.Write file offset new) =
      told_tells calls.Attributes (λ r. refl) _
      (given_with_attributes (number_for w file) _ (given_write (number_for w file) offset new))
  answers (calls.Create dir name s) =
      told_tells calls.DirOp (λ r. refl) _
      (given_with_handle _ (given_create (number_for w dir) name (given_fields now s)))
  answers (calls.Remove dir name) =
      told_tells calls.Status (λ r. refl) _ (given_remove (number_for w dir) name)
  answers (calls.Rename from from_name to to_name) =
      told_tells calls.Status (λ r. refl) _
      (given_rename (number_for w from) from_name (number_for w to) to_name)
  answers (calls.Link from dir name) =
      told_tells calls.Status (λ r. refl) _ (given_link (number_for w from) (number_for w dir) name)
  answers (calls.Symlink dir name target s) =
      told_tells calls.Status (λ r. refl) _
      (given_without_number _ (given_make (number_for w dir) name
      (new_file who now no_fields 511 (Symlink target))))
  answers (calls.Mkdir dir name s) =
      told_tells calls.DirOp (λ r. refl) _
      (given_with_handle _ (given_make (number_for w dir) name
      (new_file who now (given_fields now s) 493 (Directory (record { next = 3; entries = [] })))))
  answers (calls.Rmdir dir name) =
      told_tells calls.Status (λ r. refl) _ (given_remove_dir (number_for w dir) name)
  answers (calls.Readdir dir cookie count) =
      tells (read_dir w who (number_for w dir) cookie count) (given_read_dir (number_for w dir) cookie count)
  answers (calls.Statfs file) = tells (stat_fs w (number_for w file)) (given_figures (number_for w file))
