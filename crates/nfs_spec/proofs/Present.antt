-- In a tree, what is there is not STALE.
-- Serves: what_is_there_is_not_stale (nfs_spec).
use Rattle.std.proofs.Common.{◌≡◌, ◌≢◌, ℕ, Bool, true, false, cond, List, Option, Some, None, Result, Ok, Err}
use Rattle.std.proofs.Common.{IsSome, is_some, option_map, option_and_then, refl, sym, ap, subst, ◌∙◌}
use Rattle.std.specs.Prelude.{nat_eq}
use Rattle.std.specs.Cmp.Lexicographic.{pointwise}
use Rattle.fs_spec.specs.nfs_items.Caller.{Caller}
use Rattle.fs_spec.specs.nfs_items.Handle.{number_in, handle_of}
use Rattle.fs_spec.specs.nfs_items.declared.attributes.Fattr.{Fattr}
use Rattle.fs_spec.specs.nfs_items.declared.stat.Stat.{Stat}
use Rattle.fs_spec.specs.nfs_items.declared.stat.Stat.TheVariants as stats
use Rattle.fs_spec.specs.Listing.{Listing, entry_at}
use Rattle.fs_spec.specs.Names.{dot, dot_dot, is_name}
use Rattle.fs_spec.specs.Files.{Body, Regular, Symlink, Directory, File, Files, file_at, listing_in}
use Rattle.fs_spec.specs.Files.{is_directory, IsDirectory, directory_entries, parent_of}
use Rattle.fs_spec.specs.Trees.{IsFileTree}
use Rattle.fs_spec.proofs.Walks.{some_same, none_some}
use Rattle.fs_spec.proofs.Parents.{parent_there}
use Rattle.nfs_spec.specs.ProcedureChecks.{◌>>=◌, ok_or, listing_or, may_search}
use Rattle.nfs_spec.specs.FileAttributes.{attributes_of}
use Rattle.nfs_spec.specs.Effects.{attributes_at, number_named, number_at_name, getattr, lookup}
use Rattle.nfs_spec.proofs.Lookups.{shown}

-- what is nothing is not there
pub none_there : {A : Type 0} (o : Option A) → o ≡ None → IsSome o → ⊥
none_there o e there = tf (sym (ap is_some e) ∙ there)
  where
    tf : false ≡ true → ⊥
    tf h = cc

ok_not_stale : {A : Type 0} {x : A} → Ok x ≢ Err stats.Stale
ok_not_stale h = cc

-- GETATTR of a file that is there is not STALE
pub getattr_there : (w : Files) (file : List ℕ) (n : ℕ) → number_in w.fsid file ≡ Some n
    → IsSome (file_at w n) → getattr w file ≢ Err stats.Stale
getattr_there w file n named there h = by (file_at w n) refl
  where
    by : (o : Option File) → file_at w n ≡ o → ⊥
    by None e = none_there (file_at w n) e there
    by (Some f) e = ok_not_stale (
        sym (ap (λ o. ok_or stats.Stale o >>= λ f. Ok (attributes_of w n f)) e)
        ∙ sym (ap (λ o. ok_or stats.Stale o >>= attributes_at w) named) ∙ h)

given : Files → ℕ → Fattr → Result (List ℕ × Fattr) Stat
given w n a = Ok (handle_of w.fsid n, a)

there_shows : (w : Files) (n : ℕ) → IsSome (file_at w n) → shown w (Ok n) ≢ Err stats.Stale
unfolding given
there_shows w n there h = by (file_at w n) refl
  where
    by : (o : Option File) → file_at w n ≡ o → ⊥
    by None e = none_there (file_at w n) e there
    by (Some f) e =
        ok_not_stale (sym (ap (λ o. (ok_or stats.Stale o >>= λ f. Ok (attributes_of w n f)) >>= given w n) e)
        ∙ h)

module _ (w : Files) (tree : IsFileTree w) (d : ℕ) (l : Listing) (there : IsSome (file_at w d))
    (is_dir : IsDirectory w d)
    (own : (y : List ℕ) → directory_entries w d y ≡ entry_at l y) where
  -- what a name stands for in a tree is there
  pub named_there : (name : List ℕ) (n : ℕ) → number_named w d l name ≡ Some n → IsSome (file_at w n)
  named_there name n = dots (pointwise nat_eq name dot) (pointwise nat_eq name dot_dot) (is_name name)
    where
      entry : (o : Option (ℕ × ℕ)) → directory_entries w d name ≡ o → option_map (λ e. e.0) o ≡ Some n
          → IsSome (file_at w n)
      entry None e h = absurd (none_some h)
      entry (Some p) e h = subst (λ m. IsSome (file_at w m)) (some_same h) (tree.tree.named d name p.0 p.1 e)

      dots : (a b c : Bool) → cond a (Some d)
          (cond b (Some (parent_of w d)) (cond c (option_map (λ e. e.0) (entry_at l name)) None)) ≡ Some n
          → IsSome (file_at w n)
      dots true b c h = subst (λ m. IsSome (file_at w m)) (some_same h) there
      dots false true c h = subst (λ m. IsSome (file_at w m)) (some_same h) (parent_there w tree d is_dir)
      dots false false true h = entry (entry_at l name) (own name) h
      dots false false false h = absurd (none_some h)

-- LOOKUP in a directory that is there is not STALE
pub lookup_there : (w : Files) (who : Caller) (dir name : List ℕ) (d : ℕ) → IsFileTree w
    → number_in w.fsid dir ≡ Some d → IsSome (file_at w d) → lookup w who dir name ≢ Err stats.Stale
lookup_there w who dir name d tree named there h = by (file_at w d) refl
  where
    by_name : (l : Listing) → IsDirectory w d → ((y : List ℕ) → directory_entries w d y ≡ entry_at l y)
        → (o : Option ℕ) → number_named w d l name ≡ o → shown w (ok_or stats.NoEnt o) ≢ Err stats.Stale
    by_name l is own None e h = cc
    by_name l is own (Some n) e h = there_shows w n (named_there w tree d l there is own name n e) h

    by_body : (f : File) (b : Body) (allowed : Bool) → file_at w d ≡ Some f → f.body ≡ b
        → shown w (listing_or stats.NotDir b
        >>= λ l. cond allowed (ok_or stats.NoEnt (number_named w d l name)) (Err stats.Acces))
        ≢ Err stats.Stale
    by_body f (Regular bytes) allowed e is h = cc
    by_body f (Symlink target) allowed e is h = cc
    by_body f (Directory l) false e is h = cc
    by_body f (Directory l) true e is h = by_name l
        (ap (option_map (λ f. is_directory f.body)) e ∙ ap (λ b. Some (is_directory b)) is)
        (λ y. ap (option_and_then (λ f. entry_at (listing_in f.body) y)) e
        ∙ ap (λ b. entry_at (listing_in b) y) is)
        (number_named w d l name) refl h

    by : (o : Option File) → file_at w d ≡ o → ⊥
    by None e = none_there (file_at w d) e there
    by (Some f) e = by_body f f.body (may_search who f) e refl (
        sym (ap (λ o. ok_or stats.Stale o >>= λ n. shown w (number_at_name w who n name)) named
        ∙ ap (λ o. shown w (ok_or stats.Stale o >>= λ f. listing_or stats.NotDir f.body
        >>= λ l. cond (may_search who f) (ok_or stats.NoEnt (number_named w d l name)) (Err stats.Acces))) e)
        ∙ h)
