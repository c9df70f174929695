-- What each edit gives, it gives anew: cookies of a directory never fall, and numbers neither.
-- Serves: nothing_is_given_again.
use Rattle.std.proofs.Common.{◌≡◌, ◌≢◌, ◌⊎◌, inl, inr, ⊎_elim, ℕ, ◌≤◌, Bool, true, false, List, [], Option}
use Rattle.std.proofs.Common.{Some, None, IsSome, is_some, eqb, option_map, refl, sym, ap, subst, ◌∙◌, arith}
use Rattle.std.specs.Option.{option_map_or}
use Rattle.std.proofs.lemmas.Bool.{cases_eq}
use Rattle.nfs_spec.specs.nfs_items.Timeval.{Timeval}
use Rattle.nfs_spec.specs.fs_spec.Listing.{with_entry, without_entry}
use Rattle.nfs_spec.specs.fs_spec.Files.{Body, Regular, Symlink, Directory, File, Files, file_at, listing_in}
use Rattle.nfs_spec.specs.fs_spec.Files.{listing, IsDirectory, directory_entries, names_of}
use Rattle.nfs_spec.proofs.fs_spec.Walks.{none_some, some_same, same_entry}
use Rattle.nfs_spec.specs.fs_spec.Changes.Edits.{with_changed_file, with_new_file, without_file, map_listing}
use Rattle.nfs_spec.specs.fs_spec.Changes.Edits.{map_body_listing, with_name, without_name}
use Rattle.nfs_spec.proofs.fs_spec.OfChanges.Finite.{new_other, changed_here, changed_other, gone_other}
use Rattle.nfs_spec.proofs.fs_spec.OfChanges.Shapes.{kind, IsSameShape, is_some-kind}
use Rattle.nfs_spec.proofs.fs_spec.OfEditedTrees.Adding.{IsAdded}
use Rattle.nfs_spec.proofs.fs_spec.OfEditedTrees.Taking.{IsTaken}
use Rattle.nfs_spec.proofs.fs_spec.OfEditedTrees.Moving.{IsRenamed}
use Rattle.nfs_spec.specs.Changes.{touch, touch_ctime, with_mtime, with_ctime, unlink, after_unlink}
use Rattle.nfs_laws.specs.Trees.Anew.{GivesAnew}

-- ---- the next cookie

next_of : Option File → ℕ
next_of o = (option_map_or (λ f. listing_in f.body) o (record { next = 0; entries = [] })).next

-- a change of one file that lets its next cookie not fall lets none fall
pub cookie_changed : (w : Files) (k : ℕ) (change : File → File)
    → ((f : File) → file_at w k ≡ Some f → (listing_in f.body).next ≤ (listing_in (change f).body).next)
    → (n : ℕ) → (listing w n).next ≤ (listing (with_changed_file w k change) n).next
unfolding next_of
cookie_changed w k change grows n = ⊎_elim
    (λ e. let here = ap next_of (changed_here w k change n e) in let own =
    ap (λ m. next_of (file_at w m)) e in let more = by (file_at w k) refl in
    omega (arith, here, own, more))
    (λ ne. let same = ap next_of (changed_other w k change n ne) in omega (arith, same))
    (cases_eq n k)
  where
    by : (o : Option File) → file_at w k ≡ o
        → next_of (file_at w k) ≤ next_of (option_map change (file_at w k))
    by None e = let before = ap next_of e in let after = ap (λ o. next_of (option_map change o)) e in
        omega (arith, before, after)
    by (Some f) e = let before = ap next_of e in let after = ap (λ o. next_of (option_map change o)) e in
        omega (arith, before, after, grows f e)

more_after : (x : List ℕ) (k : ℕ) (b : Body)
    → (listing_in b).next ≤ (listing_in (map_body_listing (λ l. with_entry l x k) b)).next
more_after x k (Regular bytes) = omega arith
more_after x k (Symlink target) = omega arith
more_after x k (Directory l) = omega arith

less_after : (x : List ℕ) (b : Body)
    → (listing_in b).next ≤ (listing_in (map_body_listing (λ l. without_entry l x) b)).next
less_after x (Regular bytes) = omega arith
less_after x (Symlink target) = omega arith
less_after x (Directory l) = omega arith

-- a name more lets no next cookie fall
pub cookie_named : (w : Files) (d : ℕ) (x : List ℕ) (k n : ℕ)
    → (listing w n).next ≤ (listing (with_name w d x k) n).next
cookie_named w d x k = cookie_changed w d (map_listing (λ l. with_entry l x k)) (λ f _. more_after x k f.body)

-- nor does a name less
pub cookie_unnamed : (w : Files) (d : ℕ) (x : List ℕ) (n : ℕ)
    → (listing w n).next ≤ (listing (without_name w d x) n).next
cookie_unnamed w d x = cookie_changed w d (map_listing (λ l. without_entry l x)) (λ f _. less_after x f.body)

-- nor do times
pub cookie_touched : (now : Timeval) (w : Files) (d n : ℕ)
    → (listing w n).next ≤ (listing (touch now w d) n).next
cookie_touched now w d = cookie_changed w d (with_mtime now) (λ f _. omega arith)

-- nor does ctime alone
pub cookie_marked : (now : Timeval) (w : Files) (d n : ℕ)
    → (listing w n).next ≤ (listing (touch_ctime now w d) n).next
cookie_marked now w d = cookie_changed w d (with_ctime now) (λ f _. omega arith)

-- nor does a new file, of the numbers that were there
pub cookie_new : (w : Files) (f : File) (n : ℕ) → n ≢ w.next
    → (listing w n).next ≤ (listing (with_new_file w f) n).next
unfolding next_of
cookie_new w f n ne = let same = ap next_of (new_other w f n ne) in omega (arith, same)

-- nor does a file that goes, of the others
pub cookie_gone : (w : Files) (k n : ℕ) → n ≢ k → (listing w n).next ≤ (listing (without_file w k) n).next
unfolding next_of
cookie_gone w k n ne = let same = ap next_of (gone_other w k n ne) in omega (arith, same)

-- a directory that a name's going leaves
pub cookie_taken : (now : Timeval) (w : Files) (d : ℕ) (x : List ℕ) (k n : ℕ) → n ≢ k
    → (listing w n).next ≤ (listing (unlink now w d x k) n).next
cookie_taken now w d x k n ne = by (eqb (names_of (without_name w d x) k) 0)
  where
    by : (b : Bool) → (listing w n).next ≤ (listing (after_unlink b now (without_name w d x) k) n).next
    by true = omega (arith, cookie_unnamed w d x n, cookie_gone (without_name w d x) k n ne)
    by false = omega (arith, cookie_unnamed w d x n, cookie_marked now (without_name w d x) k n)

-- ---- what is given

-- files that stay as they are give nothing
pub nothing_given : (w : Files) → GivesAnew w w
nothing_given w =
    record {
      next = omega arith;
      numbers = λ n is. inl is;
      cookies = λ n _ _. omega arith;
      entries =
          λ n y k c _ h. inl h;
    }

there_since : (w w' : Files) (n : ℕ) → kind w' n ≡ kind w n → IsSome (file_at w' n) → IsSome (file_at w n)
there_since w w' n same is = is_some-kind w n ∙ ap is_some (sym same) ∙ sym (is_some-kind w' n) ∙ is

-- files of one shape, whose cookies don't fall, give nothing
pub same_given : (w w' : Files) → IsSameShape w w' → ((n : ℕ) → (listing w n).next ≤ (listing w' n).next)
    → GivesAnew w w'
same_given w w' s cookies = record {
  next = omega (arith, s.next);
  numbers = λ n is. inl (there_since w w' n (s.kinds n) is);
  cookies = λ n _ _. cookies n;
  entries = λ n y k c _ h. inl (sym (s.directory_entries n y) ∙ h);
}

-- an entry more is given anew: its cookie, and its number if that wasn't there
pub added_given : (w w' : Files) (d : ℕ) (x : List ℕ) (k cookie : ℕ) → IsAdded w w' d x k cookie
    → (listing w d).next ≤ cookie → IsSome (file_at w k) ⊎ (w.next ≤ k)
    → ((n : ℕ) → IsDirectory w n → (listing w n).next ≤ (listing w' n).next) → GivesAnew w w'
added_given w w' d x k cookie a new known cookies = record {
  next = a.next;
  numbers = λ n is. ⊎_elim
      (λ e. subst (λ m. IsSome (file_at w m) ⊎ (w.next ≤ m)) (sym e) known)
      (λ ne. inl (there_since w w' n (a.kinds n ne) is))
      (cases_eq n k);
  cookies = λ n is _. cookies n is;
  entries = λ n y m c _ h. ⊎_elim
      (λ e.
      let own : cookie ≡ c = second (sym a.change.here ∙ sym (λ i. directory_entries w' (e.0 i) (e.1 i))
      ∙ h) in
      let same = ap (λ m. (listing w m).next) e.0 in
      inr (omega (arith, own, same, new)))
      (λ ne. inl (sym (a.change.rest n y ne) ∙ h))
      (same_entry n d y x);
}
  where
    second : {m p q : ℕ} → ◌≡◌ {A = Option (ℕ × ℕ)} (Some (k, p)) (Some (m, q)) → p ≡ q
    second h = ap (λ (e : ℕ × ℕ). e.1) (some_same h)

-- an entry less gives nothing
pub taken_given : (w w' : Files) (d : ℕ) (x : List ℕ) (k c : ℕ) → IsTaken w w' d x k c
    → ((n : ℕ) → n ≢ k → (listing w n).next ≤ (listing w' n).next) → IsSome (file_at w k) → GivesAnew w w'
taken_given w w' d x k c a cookies there = record {
  next = a.next;
  numbers = λ n is. ⊎_elim
      (λ e. inl (subst (λ m. IsSome (file_at w m)) (sym e) there))
      (λ ne. inl (there_since w w' n (a.kinds n ne) is))
      (cases_eq n k);
  cookies = λ n _ is. cookies n (λ e. no_directory (ap (kind w') (sym e) ∙ is));
  entries = λ n y m b _ h. ⊎_elim
      (λ e. absurd (none_some (sym a.change.here ∙ sym (λ i. directory_entries w' (e.0 i) (e.1 i)) ∙ h)))
      (λ ne. inl (sym (a.change.rest n y ne) ∙ h))
      (same_entry n d y x);
}
  where
    some_false : ◌≡◌ {A = Option Bool} (Some false) (Some true) → ⊥
    some_false h = cc

    no_directory : kind w' k ≡ Some true → ⊥
    no_directory is = ⊎_elim (λ l. some_false (sym l.0 ∙ is)) (λ l. none_some (sym l.0 ∙ is)) a.left

-- an entry that moves is given a new cookie, and nothing else
pub renamed_given : (w w' : Files) (d₁ : ℕ) (x₁ : List ℕ) (d₂ : ℕ) (x₂ : List ℕ) (s sc cookie : ℕ)
    → IsRenamed w w' d₁ x₁ d₂ x₂ s sc cookie → (listing w d₂).next ≤ cookie → w.next ≤ w'.next
    → ((n : ℕ) → IsSome (file_at w' n) → IsSome (file_at w n) ⊎ (w.next ≤ n))
    → ((n : ℕ) → IsDirectory w n → IsDirectory w' n → (listing w n).next ≤ (listing w' n).next)
    → GivesAnew w w'
renamed_given w w' d₁ x₁ d₂ x₂ s sc cookie a new next there cookies = record {
  next = next;
  numbers = there;
  cookies = cookies;
  entries = λ n y m c _ h. ⊎_elim
      (λ e.
      let own : cookie ≡ c = second (sym a.put ∙ sym (λ i. directory_entries w' (e.0 i) (e.1 i)) ∙ h) in
      let same = ap (λ m. (listing w m).next) e.0 in
      inr (omega (arith, own, same, new)))
      (λ n₂. ⊎_elim
      (λ e. absurd (none_some (sym a.taken ∙ sym (λ i. directory_entries w' (e.0 i) (e.1 i)) ∙ h)))
      (λ n₁. inl (sym (a.rest n y n₁ n₂) ∙ h))
      (same_entry n d₁ y x₁))
      (same_entry n d₂ y x₂);
}
  where
    second : {m p q : ℕ} → ◌≡◌ {A = Option (ℕ × ℕ)} (Some (s, p)) (Some (m, q)) → p ≡ q
    second h = ap (λ (e : ℕ × ℕ). e.1) (some_same h)
