-- What is kept beside files, by counts of theirs; the directory above one stays where its name does.
-- Serves: the laws of counts here.
use Rattle.std.proofs.Common.{◌≡◌, ◌≢◌, ⊎_elim, ℕ, ◌<◌, ◌^◌, Bool, true, false, List, [], Option, Some, None}
use Rattle.std.proofs.Common.{IsSome, is_some, option_map, refl, sym, ap, ◌∙◌, arith}
use Rattle.std.specs.Prelude.{IsTrue}
use Rattle.std.specs.Option.{option_map_or}
use Rattle.std.proofs.lemmas.Bool.{cases_eq, or_right}
use Rattle.nfs_items.specs.Timeval.{Timeval}
use Rattle.nfs_items.specs.Caller.{Caller}
use Rattle.nfs_laws.specs.fs_spec.Names.{is_name}
use Rattle.nfs_laws.specs.fs_spec.Files.{File, Files, file_at, is_directory, IsDirectory, directory_entries}
use Rattle.nfs_laws.specs.fs_spec.Files.{parent_of}
use Rattle.nfs_laws.specs.fs_spec.Trees.{IsFileTree}
use Rattle.nfs_laws.proofs.fs_spec.Walks.{none_some, one_number, same_entry}
use Rattle.nfs_laws.proofs.fs_spec.Parents.{root_parent}
use Rattle.nfs_laws.proofs.fs_spec.Reached.{entry_of_number}
use Rattle.nfs_laws.proofs.fs_spec.OfChanges.Shapes.{kind}
use Rattle.nfs_laws.proofs.fs_spec.OfEditedTrees.Adding.{IsAdded}
use Rattle.nfs_laws.proofs.fs_spec.OfEditedTrees.Taking.{IsTaken}
use Rattle.nfs_laws.specs.nfs_spec.FileAttributes.{nlink_of}
use Rattle.nfs_laws.specs.nfs_spec.ProcedureChecks.{owns}
use Rattle.nfs_laws.specs.Steps.Granted.{MayEdit}
use Rattle.nfs_laws.proofs.OfTrees.FilesFit.{dir_file}
use Rattle.nfs_laws.specs.Sizes.Bounds.{SaysWords}
use Rattle.nfs_count_laws.specs.Counted.{AreCounted}
use Rattle.nfs_count_laws.specs.Links.Links.{link_count}

-- the nlink of a file that is there
pub links_there : (w : Files) (n : ℕ) (f : File) → file_at w n ≡ Some f → link_count w n ≡ nlink_of w n f.body
links_there w n f there = ap (λ o. option_map_or (λ f. nlink_of w n f.body) o 0) there

-- what is kept of a file that is there
pub kept_links : (w : Files) (links above : ℕ → ℕ) → AreCounted w links above → (n : ℕ) → IsSome (kind w n)
    → links n ≡ link_count w n
kept_links w links above counted n is = by (file_at w n) refl
  where
    by : (o : Option File) → file_at w n ≡ o → links n ≡ link_count w n
    by None e = absurd (nothing (sym (ap (λ (o : Option File). is_some
        (option_map (λ f. is_directory f.body) o)) e) ∙ is))
      where
        nothing : false ≡ true → ⊥
        nothing h = cc
    by (Some f) e = counted.nlinks n f e ∙ sym (links_there w n f e)

-- files whose counts are kept
pub counted_by : (w : Files) (links above : ℕ → ℕ) → ((n : ℕ) → IsSome (kind w n) → links n ≡ link_count w n)
    → ((n : ℕ) → IsDirectory w n → above n ≡ parent_of w n) → AreCounted w links above
counted_by w links above own up = record {
  nlinks = λ n f there. own n
      (ap (λ (o : Option File). is_some (option_map (λ f. is_directory f.body) o)) there)
      ∙ links_there w n f there;
  parents = up;
}

-- a directory whose name was a name of it before has the directory above it that it had
pub parent_stays : (w w' : Files) → IsFileTree w → IsFileTree w' → (n : ℕ) → IsDirectory w n
    → IsDirectory w' n
    → ((d c : ℕ) (y : List ℕ) → directory_entries w' d y ≡ Some (n, c)
    → (b : ℕ) × (directory_entries w d y ≡ Some (n, b)))
    → parent_of w' n ≡ parent_of w n
parent_stays w w' tree tree' n was is before = ⊎_elim
    (λ e. root_parent w' n e ∙ sym (root_parent w n e))
    (λ ne.
    let p = entry_of_number w' tree' n (omega (arith, tree'.directories n ne is)) in
    let q = before p.0 p.2 p.1 p.3 in
    tree'.tree.up p.0 p.1 n p.2 p.3 is ∙ sym (tree.tree.up p.0 p.1 n q.0 q.1 was))
    (cases_eq n 1)

-- an entry more leaves the other directories where they are
pub added_parents : (w w' : Files) → IsFileTree w → IsFileTree w' → (d : ℕ) (x : List ℕ) (k cookie : ℕ)
    → IsAdded w w' d x k cookie → (n : ℕ) → n ≢ k → IsDirectory w' n → parent_of w' n ≡ parent_of w n
added_parents w w' tree tree' d x k cookie a n ne is =
    parent_stays w w' tree tree' n (sym (a.kinds n ne) ∙ is) is (λ e c y h. ⊎_elim
    (λ same. absurd (ne (one_number n c k cookie
    (sym h ∙ (λ i. directory_entries w' (same.0 i) (same.1 i)) ∙ a.change.here))))
    (λ other. (c, sym (a.change.rest e y other) ∙ h))
    (same_entry e d y x))

-- so does an entry less, and what it was of is no directory
pub taken_parents : (w w' : Files) → IsFileTree w → IsFileTree w' → (d : ℕ) (x : List ℕ) (k cookie : ℕ)
    → IsTaken w w' d x k cookie → (n : ℕ) → IsDirectory w' n → (n ≢ k) × (parent_of w' n ≡ parent_of w n)
taken_parents w w' tree tree' d x k cookie a n is = (
  other,
  parent_stays w w' tree tree' n (sym (a.kinds n other) ∙ is) is (λ e c y h. ⊎_elim
      (λ same. absurd (none_some (sym a.change.here ∙ sym (λ i. directory_entries w' (same.0 i) (same.1 i))
      ∙ h)))
      (λ apart. (c, sym (a.change.rest e y apart) ∙ h))
      (same_entry e d y x)),
)
  where
    true_false : ◌≡◌ {A = Option Bool} (Some true) (Some false) → ⊥
    true_false h = cc

    other : n ≢ k
    other e = ⊎_elim
        (λ plain. true_false (sym is ∙ ap (kind w') e ∙ plain.0))
        (λ gone. none_some (sym (ap (kind w') e ∙ gone.0) ∙ is))
        a.left

-- ---- a caller whom every directory lets pass

-- user 0
abbrev pub superuser : Caller
superuser = record { uid = 0; gid = 0; gids = []; machine_name = None }

-- it may edit each directory
pub may_edit : (w : Files) (d : ℕ) (x : List ℕ) → IsDirectory w d → IsTrue (is_name x)
    → MayEdit w superuser d x
may_edit w d x is named =
    let f = dir_file w d is in
    record {
      file = f.0;
      there = f.1;
      directory = f.2;
      named = named;
      searched = refl;
      written =
          or_right (owns superuser f.0) _ refl;
    }

-- and says nothing but words
pub says_words : (now : Timeval) → now.seconds < 2 ^ 32 → SaysWords superuser now
says_words now word = record { uid = omega arith; gid = omega arith; seconds = word }
