-- What follows from the Ok of procedures that only read.
-- Serves: granted_reads_pass_their_checks.
use Rattle.std.proofs.Common.{◌≡◌, ℕ, true, List, Ok, sym, ap, ◌∙◌}
use Rattle.std.specs.Prelude.{◌||◌}
use Rattle.nfs_spec.specs.nfs_items.Caller.{Caller}
use Rattle.nfs_spec.specs.nfs_items.Handle.{number_in}
use Rattle.nfs_spec.specs.nfs_items.declared.attributes.Fattr.{Fattr}
use Rattle.nfs_spec.specs.nfs_items.declared.stat.Stat.TheVariants as stats
use Rattle.nfs_spec.specs.fs_spec.Listing.{Listing}
use Rattle.nfs_spec.specs.fs_spec.Files.{Body, Regular, Symlink, Directory, Files, is_directory, listing_in}
use Rattle.nfs_spec.specs.ProcedureChecks.{file_of, number_of, dir_of, bytes_of, check, permits, may_read}
use Rattle.nfs_spec.specs.Effects.{attributes_at, number_at_name, getattr, lookup}
use Rattle.nfs_spec.specs.nfs_types.Calls.{Page}
use Rattle.nfs_spec.specs.Procedures.{read_link, read, read_dir}
use Rattle.nfs_laws.specs.Steps.Read.{AttributesOk, GetattrOk, LookupOk, ReadLinkOk, ReadOk, ReadDirOk}
use Rattle.nfs_laws.proofs.OfSteps.Steps.{bind_ok, check_ok, found_ok, file_ok, ok_same, bytes_ok, target_ok}
use Rattle.nfs_laws.proofs.OfSteps.Steps.{dir_ok}

-- the attributes of a number
pub attributes_ok : (w : Files) (n : ℕ) (a : Fattr) → attributes_at w n ≡ Ok a → AttributesOk w n a
attributes_ok w n a h =
    let f = bind_ok (file_of w n) _ a h in
    record { file = f.0; there = file_ok w n f.0 f.1; answer = sym (ok_same f.2) }

-- GETATTR
pub getattr_ok : (w : Files) (handle : List ℕ) (a : Fattr) → getattr w handle ≡ Ok a → GetattrOk w handle a
getattr_ok w handle a h =
    let n = bind_ok (number_of w handle) _ a h in
    record {
      number = n.0;
      is_named = found_ok stats.Stale (number_in w.fsid handle) n.0 n.1;
      attributes =
          attributes_ok w n.0 a n.2;
    }

-- LOOKUP
pub lookup_ok : (w : Files) (who : Caller) (dir name handle : List ℕ) (a : Fattr)
    → lookup w who dir name ≡ Ok (handle, a) → LookupOk w who dir name handle a
lookup_ok w who dir name handle a h =
    let d = bind_ok (number_of w dir) _ (handle, a) h in
    let n = bind_ok (number_at_name w who d.0 name) _ (handle, a) d.2 in
    let b = bind_ok (attributes_at w n.0) _ (handle, a) n.2 in
    let same = ok_same b.2 in
    record {
      dir_number = d.0;
      dir_is_named = found_ok stats.Stale (number_in w.fsid dir) d.0 d.1;
      number = n.0;
      is_named = n.1;
      answer = ap (λ (x : List ℕ × Fattr). x.0) (sym same);
      attributes = attributes_ok w n.0 a (b.1 ∙ ap (λ (x : List ℕ × Fattr). Ok x.1) same);
    }

-- READLINK
pub read_link_ok : (w : Files) (n : ℕ) (target : List ℕ) → read_link w n ≡ Ok target → ReadLinkOk w n target
read_link_ok w n target h =
    let f = bind_ok (file_of w n) _ target h in
    record { file = f.0; there = file_ok w n f.0 f.1; answer = target_ok f.0.body target f.2 }

-- READ
pub read_ok : (w : Files) (who : Caller) (n offset count : ℕ) (a : Fattr) (part : List ℕ)
    → read w who n offset count ≡ Ok (a, part) → ReadOk w who n offset count a part
read_ok w who n offset count a part h =
    let f = bind_ok (file_of w n) _ (a, part) h in
    let b = bind_ok (bytes_of f.0.body) _ (a, part) f.2 in
    let may = bind_ok (check (may_read who f.0 || permits who f.0 1) stats.Acces) _ (a, part) b.2 in
    let same = ok_same may.2 in
    record {
      file = f.0;
      bytes = b.0;
      there = file_ok w n f.0 f.1;
      regular = bytes_ok f.0.body b.0 b.1;
      permitted = check_ok (may_read who f.0 || permits who f.0 1) stats.Acces may.0 may.1;
      attributes = ap (λ (x : Fattr × List ℕ). x.0) (sym same);
      answer = ap (λ (x : Fattr × List ℕ). x.1) (sym same);
    }

-- READDIR
pub read_dir_ok : (w : Files) (who : Caller) (n cookie count : ℕ) (page : Page)
    → read_dir w who n cookie count ≡ Ok page → ReadDirOk w who n cookie count page
read_dir_ok w who n cookie count page h =
    let d = bind_ok (dir_of w n) _ page h in
    let may = bind_ok (check (may_read who d.0.file) stats.Acces) _ page d.2 in
    let found = dir_ok w n d.0 d.1 in
    record {
      file = d.0.file;
      listing = d.0.listing;
      there = found.there;
      directory = lists d.0.file.body d.0.listing found.directory found.listing;
      permitted = check_ok (may_read who d.0.file) stats.Acces may.0 may.1;
      answer = sym (ok_same may.2);
    }
  where
    lists : (b : Body) (l : Listing) → is_directory b ≡ true → listing_in b ≡ l → b ≡ Directory l
    lists (Regular bytes) l is h = absurd cc
    lists (Symlink target) l is h = absurd cc
    lists (Directory m) l is h = ap (λ x. Directory x) h
