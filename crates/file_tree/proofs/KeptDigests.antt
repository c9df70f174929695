-- Digests that are kept, after files changed and theirs were dropped.
-- Serves: each call of `Tree` that changes files.
use Rattle.std.proofs.Common.{◌≡◌, ◌≢◌, ⊎_elim, ℕ, List, false, Option, Some, None, option_map, refl, sym, ap}
use Rattle.std.proofs.Common.{◌∙◌}
use Rattle.std.proofs.lemmas.Bool.{cases_eq}
use Rattle.nfs_spec.specs.nfs_items.Timeval.{Timeval}
use Rattle.nfs_spec.specs.fs_spec.Files.{File, Files, file_at}
use Rattle.nfs_spec.specs.fs_spec.Changes.Edits.{with_changed_file}
use Rattle.nfs_spec.proofs.fs_spec.Walks.{none_some}
use Rattle.nfs_spec.proofs.fs_spec.OfChanges.Finite.{changed_here, changed_other}
use Rattle.nfs_spec.specs.Sattr.{GivenFields, gives_any}
use Rattle.nfs_spec.specs.Changes.{apply_fields}
use Rattle.file_tree.specs.declared.digests.FileDigests.{FileDigests}
use Rattle.file_tree.specs.KeptDigests.{AreKept, Forgets, IsDigestAt, KeptFiles, kept_at}

-- the files of what is seen of a tree
pub files_seen : {a b : KeptFiles} → a ≡ b → a.files ≡ b.files
files_seen e = ap (λ (k : KeptFiles). k.files) e

-- what is still kept is of another number, and was kept before
still : (number : ℕ) (k k' : FileDigests) → Forgets number k k' → (n : ℕ) (d : List ℕ) → kept_at k' n ≡ Some d
    → (n ≢ number) × (kept_at k n ≡ Some d)
still number k k' forgets n d kept =
    let other : n ≢ number = λ e. none_some (sym forgets.gone ∙ ap (kept_at k') (sym e) ∙ kept) in
    (other, sym (forgets.others n other) ∙ kept)

-- a digest is that of a file's text while the file stays
stays : (w w' : Files) (n : ℕ) (d : List ℕ) → file_at w' n ≡ file_at w n → IsDigestAt w n d
    → IsDigestAt w' n d
stays w w' n d same is = (is.0, same ∙ is.1, is.2)

module _ (w w' : Files) (k : FileDigests) (kept : AreKept k w) where
  -- files that are the same keep their digests
  pub same_kept : ((n : ℕ) → file_at w' n ≡ file_at w n) → AreKept k w'
  same_kept same n d is = stays w w' n d (same n) (kept n d is)

  -- one file changed
  pub one_kept : (a : ℕ) (k₁ : FileDigests) → Forgets a k k₁ → ((n : ℕ) → n ≢ a → file_at w' n ≡ file_at w n)
      → AreKept k₁ w'
  one_kept a k₁ f same n d is =
      let x = still a k k₁ f n d is in
      stays w w' n d (same n x.0) (kept n d x.1)

  -- two files changed
  pub two_kept : (a b : ℕ) (k₁ k₂ : FileDigests) → Forgets a k k₁ → Forgets b k₁ k₂
      → ((n : ℕ) → n ≢ a → n ≢ b → file_at w' n ≡ file_at w n) → AreKept k₂ w'
  two_kept a b k₁ k₂ f g same n d is =
      let y = still b k₁ k₂ g n d is in
      let x = still a k k₁ f n d y.1 in
      stays w w' n d (same n x.0 y.0) (kept n d x.1)

  -- four files changed
  pub four_kept : (a b c e : ℕ) (k₁ k₂ k₃ k₄ : FileDigests) → Forgets a k k₁ → Forgets b k₁ k₂
      → Forgets c k₂ k₃ → Forgets e k₃ k₄
      → ((n : ℕ) → n ≢ a → n ≢ b → n ≢ c → n ≢ e → file_at w' n ≡ file_at w n) → AreKept k₄ w'
  four_kept a b c e k₁ k₂ k₃ k₄ f g h i same n d is =
      let v = still e k₃ k₄ i n d is in
      let u = still c k₂ k₃ h n d v.1 in
      let y = still b k₁ k₂ g n d u.1 in
      let x = still a k k₁ f n d y.1 in
      stays w w' n d (same n x.0 y.0 u.0 v.0) (kept n d x.1)

  -- a file was made, under a number that had none
  pub made_kept : (dir new : ℕ) (k₁ : FileDigests) → Forgets dir k k₁ → file_at w new ≡ None
      → ((n : ℕ) → n ≢ dir → n ≢ new → file_at w' n ≡ file_at w n) → AreKept k₁ w'
  made_kept dir new k₁ f free same n d is =
      let x = still dir k k₁ f n d is in
      let there = kept n d x.1 in
      stays w w' n d
      (same n x.0 (λ e. none_some (sym free ∙ ap (file_at w) (sym e) ∙ there.1))) there

-- ---- nothing is given

-- attributes of which none is given leave a file
fields_leave : (now : Timeval) (mode uid gid size : Option ℕ) (atime mtime : Option Timeval) (f : File)
    → gives_any (record {
      mode = mode;
      uid = uid;
      gid = gid;
      size = size;
      atime = atime;
      mtime = mtime;
    }) ≡ false
    → apply_fields now (record {
      mode = mode;
      uid = uid;
      gid = gid;
      size = size;
      atime = atime;
      mtime = mtime;
    }) f ≡ f
fields_leave now (Some x) uid gid size atime mtime f h = absurd cc
fields_leave now None (Some x) gid size atime mtime f h = absurd cc
fields_leave now None None (Some x) size atime mtime f h = absurd cc
fields_leave now None None None (Some x) atime mtime f h = absurd cc
fields_leave now None None None None (Some x) mtime f h = absurd cc
fields_leave now None None None None None (Some x) f h = absurd cc
fields_leave now None None None None None None f h = refl

-- and so all files
pub nothing_set : (w : Files) (k : ℕ) (now : Timeval) (a : GivenFields) → gives_any a ≡ false → (n : ℕ)
    → file_at (with_changed_file w k (apply_fields now a)) n ≡ file_at w n
nothing_set w k now a none n = ⊎_elim
    (λ e. changed_here w k (apply_fields now a) n e ∙ by (file_at w k) ∙ ap (file_at w) (sym e))
    (λ ne. changed_other w k (apply_fields now a) n ne)
    (cases_eq n k)
  where
    by : (o : Option File) → option_map (apply_fields now a) o ≡ o
    by None = refl
    by (Some f) = ap (λ g. Some g) (fields_leave now a.mode a.uid a.gid a.size a.atime a.mtime f none)
