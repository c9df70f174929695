-- A file that CREATE makes under a free name: the table takes it, and that is what the call does. Which files
-- CREATE changes.
-- Serves: `Tree::create`, `Tree::create_new`.
use Rattle.std.proofs.Common.{◌≡◌, ℕ, ◌≤◌, List, [], ◌∷◌, length, replicate, Option, Some, None, Ok, refl}
use Rattle.std.proofs.Common.{ap, subst, ◌∙◌, arith}
use Rattle.std.specs.Prelude.{IsTrue, unwrap_or}
use Rattle.std.specs.Option.{option_map_or}
use Rattle.nfs_spec.specs.nfs_items.Timeval.{Timeval}
use Rattle.nfs_spec.specs.nfs_items.Caller.{Caller}
use Rattle.nfs_spec.specs.fs_spec.Files.{Body, Regular, File, Files, directory_entries}
use Rattle.nfs_spec.specs.fs_spec.Listing.{DirectoryEntry}
use Rattle.nfs_spec.specs.fs_spec.Trees.{IsTime, IsFile, IsFileTree}
use Rattle.nfs_spec.specs.fs_spec.Changes.Limits.{has_room}
use Rattle.nfs_spec.specs.Changes.{new_file}
use Rattle.nfs_spec.specs.Procedures.{create, add_file}
use Rattle.nfs_spec.specs.Sattr.{GivenFields, gives_any}
use Rattle.inode_table.specs.nfs_laws.Steps.Granted.{CreateNewOk, new_regular}
use Rattle.inode_table.proofs.nfs_laws.OfSteps.Making.{create_ok}
use Rattle.inode_table.specs.nfs_laws.Laws.{AreValidFields, NamesIn}
use Rattle.inode_table.proofs.nfs_laws.FilesFit.{regular_fits}
use Rattle.inode_table.specs.nfs_laws.Sizes.Bounds.{HasWords}
use Rattle.inode_table.specs.nfs_count_laws.CountChanges.{MayMake}
use Rattle.file_tree.specs.FileChecks.Creates.{DecidesCreate}
use Rattle.file_tree.specs.Performs.{changed_by_create, number_if}
use Rattle.file_tree.proofs.OfFileChecks.GrantedNames.{may_make, make_does, make_names}

-- what CREATE changes where the name is free
pub changed_new : (a : GivenFields) (w : Files) (dir : ℕ) (name : List ℕ) (number : ℕ)
    → directory_entries w dir name ≡ None → changed_by_create a w dir name number ≡ dir ∷ number ∷ []
changed_new a w dir name number free =
    ap (λ (o : Option DirectoryEntry). option_map_or
    (λ (e : DirectoryEntry). number_if (gives_any a) number) o
    (dir ∷ number ∷ [])) free

-- and where a file has it
pub changed_old : (a : GivenFields) (w : Files) (dir : ℕ) (name : List ℕ) (number : ℕ) (e : DirectoryEntry)
    → directory_entries w dir name ≡ Some e
    → changed_by_create a w dir name number ≡ number_if (gives_any a) number
changed_old a w dir name number e is =
    ap (λ (o : Option DirectoryEntry). option_map_or
    (λ (e : DirectoryEntry). number_if (gives_any a) number) o
    (dir ∷ number ∷ [])) is

-- a new file of zeros, as many as the size that is given, or none
pub new_regular_is : (who : Caller) (now : Timeval) (a : GivenFields) (file : File) (body : Body) (size : ℕ)
    → file ≡ new_file who now a 420 body → body ≡ Regular (replicate size 0) → size ≡ unwrap_or a.size 0
    → file ≡ new_regular who now a
new_regular_is who now a file body size is filled sized =
    is ∙ ap (new_file who now a 420) (filled ∙ ap (λ (n : ℕ). Regular (replicate n 0)) sized)

-- the name was copied, and the file is the new one; the caller is granted it
module _ (w : Files) (tree : IsFileTree w) (room : IsTrue (has_room w)) (who : Caller) (now : Timeval)
    (time : IsTime now) (dir : ℕ) (name copy : List ℕ) (bound : length name ≤ 255) (copied : copy ≡ name)
    (a : GivenFields) (valid : AreValidFields a) (file : File) (is : file ≡ new_regular who now a)
    (words : HasWords file) (granted : DecidesCreate w who now dir name a (Ok None)) where
  -- the number that the file gets, and the files after it
  abbrev number : ℕ
  number = granted.1.0.0

  abbrev after : Files
  after = granted.1.0.1

  -- what the grant says
  new : CreateNewOk w who now dir name a number after
  new = (create_ok w who now dir name a number after granted.1.1).fresh granted.0

  new_fits : IsFile (new_regular who now a)
  new_fits = regular_fits who now time a valid new.fits

  new_words : HasWords (new_regular who now a)
  new_words = subst HasWords is words

  -- the table takes the edit
  pub may_create : MayMake w dir copy file
  may_create =
      rw (copied, is) (may_make w tree room who now dir name bound (new_regular who now a) refl (omega arith)
      new_fits new_words number after new.make)

  module _ (n : ℕ) (v : Files) (next : n ≡ w.next) (does : v ≡ add_file now w dir copy file) where
    -- the edit is that of the new file
    edited : v ≡ add_file now w dir name (new_regular who now a)
    edited = rw (copied, is) at does

    -- it is what CREATE does
    pub create_does : create w who now dir name a ≡ Ok (n, v)
    create_does =
        make_does w tree room who now dir name bound (new_regular who now a) refl (omega arith) new_fits
        new_words number after new.make (create w who now dir name a) granted.1.1 n v next edited

    -- and adds one path
    pub create_names : NamesIn w v dir name n
    create_names =
        make_names w tree room who now dir name bound (new_regular who now a) refl (omega arith) new_fits
        new_words number after new.make time n v next edited
