-- In every call files stay of their kind; attributes and bytes change only where they are set or written;
-- what is nothing stays nothing.
-- Serves: files_stay_what_they_are, calls_keep_the_files_they_do_not_name (frames).
use Rattle.std.proofs.Common.{◌≡◌, ◌≢◌, ℕ, Option, Some, None, refl, sym, ap, subst, ◌∙◌}
use Rattle.nfs_spec.specs.nfs_items.Timeval.{Timeval}
use Rattle.nfs_spec.specs.nfs_items.Caller.{Caller}
use Rattle.nfs_spec.specs.fs_spec.Listing.{Listing}
use Rattle.nfs_spec.specs.fs_spec.Files.{Body, Regular, Symlink, Directory, File, Files, file_at}
use Rattle.nfs_spec.specs.fs_spec.Trees.{IsFileTree}
use Rattle.nfs_spec.proofs.fs_spec.Walks.{none_some}
use Rattle.nfs_spec.specs.fs_spec.Changes.Edits.{map_body_listing}
use Rattle.nfs_spec.specs.Sattr.{given_fields}
use Rattle.nfs_spec.specs.Changes.{with_bytes_at, body_with_length}
use Rattle.nfs_spec.specs.nfs_types.Calls.{Call}
use Rattle.nfs_spec.specs.NfsCalls.{number_for, call_does}
use Rattle.nfs_laws.proofs.OfTrees.FilesFit.{next_free}
use Rattle.nfs_laws.specs.Frames.Named.{IsNoneOf, files_set_by, files_written_by, KeepsKind, KeepsAttributes}
use Rattle.nfs_laws.specs.Frames.Named.{KeepsBytes, KeepsAt}
use Rattle.nfs_laws.proofs.OfFrames.UnnamedFiles.{at_name}
use Rattle.nfs_laws.proofs.OfFrames.BeforeAndAfter.{Step, steps}

-- ---- nothing stays nothing

-- a number without a file gets none but as the next one
pub absent : (w : Files) (who : Caller) (now : Timeval) (call : Call) (n : ℕ) → n ≢ w.next
    → file_at w n ≡ None → file_at (call_does w who now call).1 n ≡ None
absent w who now call n ne none =
    subst (λ (o : Option File). Step (λ f g. Unit {0}) o (file_at (call_does w who now call).1 n)) none
    (steps (λ f g. Unit {0}) now
    (record {
      same = λ f. tt;
      joins = λ f g h a b. tt;
      marks = λ f. tt;
      touches = λ f. tt;
      relists =
          λ change f. tt;
    }) n w who (λ call. Unit {0}) ne
    (record {
      sets = λ file s a e f. tt;
      creates = λ dir name s a k c is e f. tt;
      writes =
          λ file offset new a e before f is. tt;
    }) call tt)

-- what stands between two files that are there
between : (R : File → File → Type 0) (a b : Option File) → Step R a b → (f g : File) → a ≡ Some f → b ≡ Some g
    → R f g
between R None b h f g is is' = absurd (none_some is)
between R (Some f') None h f g is is' = absurd (none_some is')
between R (Some f') (Some g') h f g is is' =
    subst (λ (v : File). R v g) (some_same is) (subst (λ (v : File). R f' v) (some_same is') h)
  where
    some_same : {a b : File} → Some a ≡ Some b → a ≡ b
    some_same h = cc

-- in a tree what is there is not the next number
old_number : (w : Files) → IsFileTree w → (n : ℕ) (f : File) → file_at w n ≡ Some f → n ≢ w.next
old_number w tree n f is e = none_some (sym (next_free w tree) ∙ ap (file_at w) (sym e) ∙ is)

-- ---- kinds

kind_same : (b : Body) → KeepsKind b b
kind_same (Regular bytes) = (bytes, refl)
kind_same (Symlink target) = refl
kind_same (Directory l) = (l, refl)

kind_on : (a b c : Body) → KeepsKind a b → KeepsKind b c → KeepsKind a c
kind_on (Regular bytes) b c h k = subst (λ v. KeepsKind v c) h.1 k
kind_on (Symlink target) b c h k = subst (λ v. KeepsKind v c) h k
kind_on (Directory l) b c h k = subst (λ v. KeepsKind v c) h.1 k

kind_relisted : (change : Listing → Listing) (b : Body) → KeepsKind b (map_body_listing change b)
kind_relisted change (Regular bytes) = (bytes, refl)
kind_relisted change (Symlink target) = refl
kind_relisted change (Directory l) = (change l, refl)

kind_resized : (size : Option ℕ) (b : Body) → KeepsKind b (body_with_length size b)
kind_resized None b = kind_same b
kind_resized (Some size) (Regular bytes) = (_, refl)
kind_resized (Some size) (Symlink target) = refl
kind_resized (Some size) (Directory l) = (l, refl)

module _ (w : Files) (who : Caller) (now : Timeval) (tree : IsFileTree w) where
  -- kinds, and targets of links
  pub kinds : (call : Call) (n : ℕ)
      → KeepsAt (λ old new. KeepsKind old.body new.body) w (call_does w who now call).1 n
  kinds call n old new is is' =
      let R : File → File → Type 0 = λ f g. KeepsKind f.body g.body in
      between R (file_at w n) (file_at (call_does w who now call).1 n)
      (steps R now (record {
        same = λ f. kind_same f.body;
        joins = λ f g h a b. kind_on f.body g.body h.body a b;
        marks = λ f. kind_same f.body;
        touches = λ f. kind_same f.body;
        relists = λ change f. kind_relisted change f.body;
      }) n w who (λ call. Unit {0}) (old_number w tree n old is) (record {
        sets = λ file s a e f. kind_resized (given_fields now s).size f.body;
        creates = λ dir name s a k c at e f. kind_resized (given_fields now s).size f.body;
        writes = λ file offset new a e before f regular. subst
            (λ b. KeepsKind b (Regular (with_bytes_at offset new before))) (sym regular) (_, refl);
      })
      call tt) old new is is'

  -- ---- mode, owner, group and atime

  attributes_same : (f : File) → KeepsAttributes f f
  attributes_same f = record { mode = refl; uid = refl; gid = refl; atime = refl }

  -- mode, owner, group and atime
  pub attributes : (call : Call) (n : ℕ) → IsNoneOf n (files_set_by w call)
      → KeepsAt KeepsAttributes w (call_does w who now call).1 n
  attributes call n ns old new is is' =
      between KeepsAttributes (file_at w n) (file_at (call_does w who now call).1 n)
      (steps KeepsAttributes now (record {
        same = attributes_same;
        joins = λ f g h a b. record {
          mode = b.mode ∙ a.mode;
          uid = b.uid ∙ a.uid;
          gid =
              b.gid ∙ a.gid;
          atime = b.atime ∙ a.atime;
        };
        marks = λ f. record { mode = refl; uid = refl; gid = refl; atime = refl };
        touches = λ f. record { mode = refl; uid = refl; gid = refl; atime = refl };
        relists = λ change f. record { mode = refl; uid = refl; gid = refl; atime = refl };
      }) n w who (λ call. IsNoneOf n (files_set_by w call)) (old_number w tree n old is) (record {
        sets = λ file s a e f. absurd (a.0 e);
        creates = λ dir name s a k c at e f. absurd (at_name w who now (number_for w dir) name k c n at a e);
        writes = λ file offset new a e before f regular. record {
          mode = refl;
          uid = refl;
          gid = refl;
          atime =
              refl;
        };
      })
      call ns) old new is is'

  -- ---- bytes

  bytes_relisted : (change : Listing → Listing) (b : Body) → KeepsBytes b (map_body_listing change b)
  bytes_relisted change b bytes is = ap (map_body_listing change) is

  -- bytes of regular files
  pub bytes : (call : Call) (n : ℕ) → IsNoneOf n (files_written_by w call)
      → KeepsAt (λ old new. KeepsBytes old.body new.body) w (call_does w who now call).1 n
  bytes call n ns old new is is' =
      let R : File → File → Type 0 = λ f g. KeepsBytes f.body g.body in
      between R (file_at w n) (file_at (call_does w who now call).1 n)
      (steps R now (record {
        same = λ f bytes h. h;
        joins = λ f g h a b bytes own. b bytes (a bytes own);
        marks = λ f bytes h. h;
        touches = λ f bytes h. h;
        relists = λ change f. bytes_relisted change f.body;
      }) n w who (λ call. IsNoneOf n (files_written_by w call)) (old_number w tree n old is) (record {
        sets = λ file s a e f. absurd (a.0 e);
        creates = λ dir name s a k c at e f. absurd (at_name w who now (number_for w dir) name k c n at a e);
        writes = λ file offset new a e before f regular. absurd (a.0 e);
      })
      call ns) old new is is'
