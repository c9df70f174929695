-- A name that goes, and the file with the last one.
-- Serves: the_last_name_takes_the_file (frames).
use Rattle.std.proofs.Common.{◌≡◌, ◌≢◌, ⊎_elim, ℕ, ◌<◌, Bool, true, false, List, [], Option, Some, None, Ok}
use Rattle.std.proofs.Common.{IsSome, is_some, option_map, refl, sym, ap, subst, ◌∙◌, arith}
use Rattle.std.specs.Prelude.{◌==◌}
use Rattle.std.proofs.lemmas.Bool.{cases_eq}
use Rattle.nfs_spec.specs.nfs_items.Timeval.{Timeval}
use Rattle.nfs_spec.specs.nfs_items.Caller.{Caller}
use Rattle.nfs_spec.specs.fs_spec.Files.{File, Files, file_at, listing_in, is_directory, directory_entries}
use Rattle.nfs_spec.specs.fs_spec.Files.{names_of}
use Rattle.nfs_spec.specs.fs_spec.Trees.{IsTime, IsFileTree}
use Rattle.nfs_spec.proofs.fs_spec.Walks.{none_some, some_same}
use Rattle.nfs_spec.proofs.fs_spec.Reached.{path_there}
use Rattle.nfs_spec.proofs.fs_spec.OnePath.{root_has_no_name}
use Rattle.nfs_spec.specs.fs_spec.Changes.Edits.{without_name}
use Rattle.nfs_spec.proofs.fs_spec.OfChanges.Finite.{changed_here, changed_other, gone_here}
use Rattle.nfs_spec.proofs.fs_spec.OfChanges.Shapes.{kind}
use Rattle.nfs_spec.proofs.fs_spec.OfChanges.Listings.{one_same}
use Rattle.nfs_spec.proofs.fs_spec.OfEditedTrees.Taking.{IsTaken, stays_taken}
use Rattle.nfs_spec.specs.Changes.{touch, with_mtime, with_ctime, unlink, after_unlink}
use Rattle.nfs_spec.specs.Procedures.{remove, remove_dir}
use Rattle.nfs_laws.proofs.OfTrees.FilesFit.{is_dir}
use Rattle.nfs_laws.proofs.OfTrees.Removing.{touched_taken}
use Rattle.nfs_laws.specs.Steps.Granted.{UnnameOk}
use Rattle.nfs_laws.proofs.OfSteps.Removing.{remove_ok, remove_dir_ok}
use Rattle.nfs_laws.specs.Frames.Gone.{IsGone, HasOneNameLess}

no_kind : (w : Files) (n : ℕ) → kind w n ≡ None → file_at w n ≡ None
no_kind w n h = by (file_at w n) refl
  where
    never : {A : Type 0} {a : A} → Some a ≡ None → ⊥
    never h = cc

    by : (o : Option File) → file_at w n ≡ o → file_at w n ≡ None
    by None e = e
    by (Some f) e = absurd (never (sym (ap (option_map (λ f. is_directory f.body)) e) ∙ h))

-- a file that is there when its name is gone was changed now
module _ (now : Timeval) (dir n : ℕ) where
  mapped : (change : File → File) → ((f : File) → (change f).ctime ≡ now) → (o : Option File) (g : File)
      → option_map change o ≡ Some g → g.ctime ≡ now
  mapped change is None g h = absurd (none_some h)
  mapped change is (Some f) g h = ap (λ (z : File). z.ctime) (sym (some_same h)) ∙ is f

  ctime_by : (b : Bool) (v : Files) (g : File) → file_at (touch now (after_unlink b now v n) dir) n ≡ Some g
      → g.ctime ≡ now
  ctime_by b v g h = ⊎_elim
      (λ e. mapped (with_mtime now) (λ f. refl) _ g
      (sym (changed_here (after_unlink b now v n) dir (with_mtime now) n e) ∙ h))
      (λ ne. by b (sym (changed_other (after_unlink b now v n) dir (with_mtime now) n ne) ∙ h))
      (cases_eq n dir)
    where
      by : (b : Bool) → file_at (after_unlink b now v n) n ≡ Some g → g.ctime ≡ now
      by true h = absurd (none_some (sym (gone_here v n n refl) ∙ h))
      by false h =
          mapped (with_ctime now) (λ f. refl) _ g (sym (changed_here v n (with_ctime now) n refl) ∙ h)

module _ (now : Timeval) (time : IsTime now) (w : Files) (tree : IsFileTree w) (dir : ℕ) (name : List ℕ)
    (n c : ℕ) (had : directory_entries w dir name ≡ Some (n, c))
    (f : File) (there : file_at w n ≡ Some f) (empty : (listing_in f.body).entries ≡ []) where
  after : Files
  after = touch now (unlink now w dir name n) dir

  a : IsTaken w after dir name n c
  unfolding after
  a = touched_taken now time w tree dir name n c had f there empty

  is_gone : names_of w n ≡ 1 → IsGone (touch now (unlink now w dir name n) dir) n
  unfolding after
  is_gone single = record {
    file = none;
    paths = λ path cookie h. absurd
        (none_some (sym none ∙ some_there (file_at after n) refl
        (path_there after (stays_taken w after tree dir name n c a) path n cookie h)));
  }
    where
      none : file_at after n ≡ None
      none = no_kind after n (⊎_elim
          (λ l. absurd (omega (arith, l.2, a.names n, one_same n n refl, single)))
          (λ r. r.0)
          a.left)

      some_there : (o : Option File) → file_at after n ≡ o → IsSome (file_at after n)
          → file_at after n ≡ Some f
      some_there None e h = absurd (tf (sym (ap is_some e) ∙ h))
        where
          tf : false ≡ true → ⊥
          tf h = cc
      some_there (Some g) e h = absurd (none_some (sym none ∙ e))

  is_less : 1 < names_of w n → HasOneNameLess w (touch now (unlink now w dir name n) dir) now n
  unfolding after
  is_less more = ⊎_elim
      (λ l. by (file_at after n) refl l.0)
      (λ r. absurd (omega (arith, r.1, a.names n, one_same n n refl, more)))
      a.left
    where
      ctime : (g : File) → file_at after n ≡ Some g → g.ctime ≡ now
      ctime g h = ctime_by now dir n (names_of (without_name w dir name) n == 0) (without_name w dir name) g h

      by : (o : Option File) → file_at after n ≡ o → kind after n ≡ Some false
          → HasOneNameLess w (touch now (unlink now w dir name n) dir) now n
      by None e k = absurd (none_some (sym (ap (option_map (λ f. is_directory f.body)) e) ∙ k))
      by (Some g) e k =
          record {
            file = g;
            there = e;
            ctime = ctime g e;
            names =
                omega (arith, a.names n, one_same n n refl);
          }

module _ (now : Timeval) (time : IsTime now) (w after : Files) (tree : IsFileTree w) (who : Caller) (dir : ℕ)
    (name : List ℕ) (n c : ℕ) (at : directory_entries w dir name ≡ Some (n, c)) where
  -- the file that lost its name is the one that the name stood for
  module _ (of_directory : Bool) (o : UnnameOk of_directory w who now dir name after) where
    is_same : o.number ≡ n
    is_same = ap (λ (p : ℕ × ℕ). p.0) (some_same (sym o.is_named ∙ at))

    was_there : file_at w n ≡ Some o.file
    was_there = ap (λ k. file_at w k) (sym is_same) ∙ o.there

    effect : after ≡ touch now (unlink now w dir name n) dir
    effect = o.effect ∙ ap (λ k. touch now (unlink now w dir name k) dir) is_same

  -- REMOVE of a last name
  pub last : names_of w n ≡ 1 → remove w who now dir name ≡ Ok (tt, after) → IsGone after n
  last single h =
      let o = remove_ok w who now dir name after h in
      subst (λ v. IsGone v n) (sym (effect false o))
      (is_gone now time w tree dir name n c at o.file (was_there false o) o.empty single)

  -- REMOVE of a name where another is left
  pub more_left : 1 < names_of w n → remove w who now dir name ≡ Ok (tt, after) → HasOneNameLess w after now n
  more_left more h =
      let o = remove_ok w who now dir name after h in
      subst (λ v. HasOneNameLess w v now n) (sym (effect false o))
      (is_less now time w tree dir name n c at o.file (was_there false o) o.empty more)

  -- RMDIR
  pub directory : remove_dir w who now dir name ≡ Ok (tt, after) → IsGone after n
  directory h =
      let o = remove_dir_ok w who now dir name after h in
      let not_root : n ≢ 1 = λ root. root_has_no_name w tree dir c name (at ∙ ap (λ k. Some (k, c)) root) in
      subst (λ v. IsGone v n) (sym (effect true o))
      (is_gone now time w tree dir name n c at o.file (was_there true o) o.empty
      (tree.directories n not_root (is_dir w n o.file (was_there true o) o.kind)))
