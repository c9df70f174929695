-- Calls one after the other keep a tree a tree within the limits, and give no number and no cookie again.
-- Serves: runs_keep_a_tree_within_its_limits, runs_give_nothing_again (frames).
use Rattle.std.proofs.Common.{◌≡◌, ◌<◌, ℕ, inr, ⊎_elim, List, [], ◌∷◌, true, false, Option, Some, None}
use Rattle.std.proofs.Common.{IsSome, is_some, option_map, option_and_then, refl, sym, ap, ◌∙◌, arith}
use Rattle.std.specs.Prelude.{IsTrue}
use Rattle.nfs_spec.specs.nfs_items.Timeval.{Timeval}
use Rattle.nfs_spec.specs.nfs_items.Caller.{Caller}
use Rattle.nfs_spec.specs.fs_spec.Listing.{entry_at}
use Rattle.nfs_spec.specs.fs_spec.Files.{Body, Regular, Symlink, Directory, File, Files, file_at}
use Rattle.nfs_spec.specs.fs_spec.Files.{is_directory, listing_in, IsDirectory}
use Rattle.nfs_spec.specs.fs_spec.Trees.{IsFileTree}
use Rattle.nfs_spec.proofs.fs_spec.Walks.{none_some}
use Rattle.nfs_spec.specs.fs_spec.Changes.Limits.{has_room}
use Rattle.nfs_spec.specs.nfs_types.Calls.{Call}
use Rattle.nfs_spec.specs.NfsCalls.{call_does}
use Rattle.nfs_laws.specs.Trees.Anew.{GivesAnew}
use Rattle.nfs_laws.proofs.OfTrees.GivenAnew.{nothing_given}
use Rattle.nfs_laws.proofs.OfTrees.FilesFit.{dir_file, is_dir}
use Rattle.nfs_laws.proofs.EveryCall.{stays}
use Rattle.nfs_laws.specs.Frames.Named.{KeepsKind}
use Rattle.nfs_laws.specs.Frames.Runs.{Request, files_after, AreBounded}
use Rattle.nfs_laws.proofs.OfFrames.KeptParts.{kinds}

-- they keep a tree a tree
pub trees : (w : Files) (requests : List Request) → IsFileTree w → AreBounded requests
    → IsFileTree (files_after w requests)
trees w [] tree bounded = tree
trees w (r ∷ requests) tree bounded =
    trees (call_does w r.who r.now r.call).1 requests
    (stays r.now bounded.0 w tree r.who r.call bounded.1).tree bounded.2

-- they pass no limit that was not passed
pub rooms : (w : Files) (requests : List Request) → IsFileTree w → AreBounded requests → IsTrue (has_room w)
    → IsTrue (has_room (files_after w requests))
rooms w [] tree bounded room = room
rooms w (r ∷ requests) tree bounded room =
    let follows = stays r.now bounded.0 w tree r.who r.call bounded.1 in
    rooms (call_does w r.who r.now r.call).1 requests follows.tree bounded.2 (follows.room room)

-- ---- nothing is given again

directory_there : (o : Option File) → option_map (λ f. is_directory f.body) o ≡ Some true → IsSome o
directory_there None h = absurd (none_some h)
directory_there (Some f) h = refl

entry_there : (o : Option File) (name : List ℕ) (e : ℕ × ℕ)
    → option_and_then (λ f. entry_at (listing_in f.body) name) o ≡ Some e → IsSome o
entry_there None name e h = absurd (none_some h)
entry_there (Some f) name e h = refl

same_kind : (b c : Body) → KeepsKind b c → is_directory c ≡ is_directory b
same_kind (Regular bytes) c k = ap is_directory k.1
same_kind (Symlink target) c k = ap is_directory k
same_kind (Directory l) c k = ap is_directory k.1

-- a directory that is still there after a call is a directory
stays_directory : (w : Files) → IsFileTree w → (who : Caller) (now : Timeval) (call : Call) (n : ℕ)
    → IsDirectory w n → IsSome (file_at (call_does w who now call).1 n)
    → IsDirectory (call_does w who now call).1 n
stays_directory w tree who now call n is there = by (file_at (call_does w who now call).1 n) refl there
  where
    by : (o : Option File) → file_at (call_does w who now call).1 n ≡ o → IsSome o
        → IsDirectory (call_does w who now call).1 n
    by None e h = absurd (never h)
      where
        never : false ≡ true → ⊥
        never h = cc
    by (Some g) e h =
        let d = dir_file w n is in
        is_dir (call_does w who now call).1 n g e
        (same_kind d.0.body g.body (kinds w who now tree call n d.0 g d.1 e) ∙ d.2)

-- what two changes in turn give anew the whole gives anew, where no directory becomes another kind
module _ (w w' w'' : Files) (tree : IsFileTree w)
    (keeps : (n : ℕ) → IsDirectory w n → IsSome (file_at w' n) → IsDirectory w' n) (a : GivesAnew w w')
    (b : GivesAnew w' w'') where
  between : (n : ℕ) → IsDirectory w n → IsSome (file_at w'' n) → IsDirectory w' n
  between n is there = keeps n is (⊎_elim
      (λ h. h)
      (λ late. absurd (omega (arith, late, a.next, (tree.numbers n (directory_there (file_at w n) is)).1)))
      (b.numbers n there))

  joined : GivesAnew w w''
  joined = record {
    next = omega (arith, a.next, b.next);
    numbers = λ n is. ⊎_elim (λ h. a.numbers n h) (λ late. inr (omega (arith, late, a.next)))
        (b.numbers n is);
    cookies = λ n is is'. let d = between n is (directory_there (file_at w'' n) is') in
        omega (arith, a.cookies n is d, b.cookies n d is');
    entries = λ n name k c is at.
        let d = between n is (entry_there (file_at w'' n) name (k, c) at) in
        ⊎_elim (λ h. a.entries n name k c is h) (λ late. inr (omega (arith, late, a.cookies n is d)))
        (b.entries n name k c d at);
  }

-- they give no number and no cookie again
pub anew : (w : Files) (requests : List Request) → IsFileTree w → AreBounded requests
    → GivesAnew w (files_after w requests)
anew w [] tree bounded = nothing_given w
anew w (r ∷ requests) tree bounded =
    let follows = stays r.now bounded.0 w tree r.who r.call bounded.1 in
    let w' = (call_does w r.who r.now r.call).1 in
    joined w w' (files_after w' requests) tree (stays_directory w tree r.who r.now r.call) follows.anew
    (anew w' requests follows.tree bounded.2)

-- a number that was given and has no file gets none
pub none_since : (w w' : Files) (n : ℕ) → GivesAnew w w' → n < w.next → file_at w n ≡ None
    → file_at w' n ≡ None
none_since w w' n a given none = by (file_at w' n) refl
  where
    never : (o : Option File) → o ≡ None → IsSome o → ⊥
    never None e h = cc
    never (Some f) e h = none_some (sym e)

    by : (o : Option File) → file_at w' n ≡ o → file_at w' n ≡ None
    by None e = e
    by (Some f) e =
        ⊎_elim (λ was. absurd (never (file_at w n) none was)) (λ late. absurd (omega (arith, late, given)))
        (a.numbers n (ap is_some e))
