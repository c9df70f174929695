-- What changes of files do to how much they take.
-- Serves: no_limit_is_passed (nfs_laws), room_is_told_before (nfs_laws::trees).
use Rattle.std.proofs.Common.{◌≡◌, ⊎_elim, ℕ, ◌+◌, ◌-◌, ◌≤◌, Bool, true, false, cond, T, List, [], ◌∷◌, map}
use Rattle.std.proofs.Common.{length, leb, Option, Some, None, is_some, option_map, nat_eq, refl, sym, ap}
use Rattle.std.proofs.Common.{subst, ◌∙◌, arith}
use Rattle.std.specs.Prelude.{nat_le}
use Rattle.std.specs.List.{list_all}
use Rattle.std.specs.Map.{remove_entry}
use Rattle.std.specs.Ordering.{nat_cmp, eq_by_cmp}
use Rattle.std.specs.Cmp.{nat_cmp_total}
use Rattle.std.specs.Cmp.Lexicographic.{pointwise}
use Rattle.std.specs.FinMap as finite
use Rattle.std.specs.FinMap.Entries.{find, below_all, is_sorted}
use Rattle.std.proofs.lemmas.Bool.{and_parts, and_from, leb-true, le-leb, cases_eq, cond-true, cond-false}
use Rattle.fs_spec.specs.Listing.{without_entry}
use Rattle.fs_spec.specs.Files.{Body, Regular, Symlink, Directory, File, Files, file_at, listing_in}
use Rattle.fs_spec.proofs.Walks.{none_some, some_same}
use Rattle.fs_spec.proofs.Counts.{same_number}
use Rattle.fs_spec.proofs.Reached.{both_of}
use Rattle.fs_spec.specs.Changes.Edits.{with_changed_file, with_new_file, without_file, map_listing}
use Rattle.fs_spec.specs.Changes.Edits.{map_body_listing, without_name}
use Rattle.fs_spec.specs.Changes.Limits.{blocks_in, block_count, entry_count, file_count, has_room}
use Rattle.fs_spec.proofs.OfChanges.Finite.{by_file, nothing_changes, changed_next, changed_here}
use Rattle.fs_spec.proofs.OfChanges.Finite.{changed_other, gone_here, gone_other, total_changed, total_gone}
use Rattle.fs_spec.proofs.OfChanges.Finite.{none_above, cmp_same}

-- ---- how many files there are

-- a new file is one more
pub count_new : (w : Files) (f : File) → file_at w w.next ≡ None
    → file_count (with_new_file w f) ≡ file_count w + 1
count_new w f none =
    finite.len-insert nat_cmp_total w.files w.next f
    ∙ ap (λ o. cond (is_some o) (file_count w) (file_count w + 1)) none

module _ (w : Files) (k : ℕ) (change : File → File) where
  -- a changed file is none more
  pub count_changed : file_count (with_changed_file w k change) ≡ file_count w
  unfolding by_file
  count_changed = by (file_at w k) refl
    where
      by : (o : Option File) → file_at w k ≡ o → file_count (by_file w k change o) ≡ file_count w
      by None e = refl
      by (Some f) e =
          finite.len-insert nat_cmp_total w.files k (change f)
          ∙ ap (λ o. cond (is_some o) (file_count w) (file_count w + 1)) e

-- without a file there are no more
pub count_gone : (w : Files) (k : ℕ) → file_count (without_file w k) ≤ file_count w
count_gone w k = let e = finite.len-remove nat_cmp_total w.files k in by (is_some (file_at w k)) e
  where
    by : (b : Bool) → file_count (without_file w k) ≡ cond b (file_count w - 1) (file_count w)
        → file_count (without_file w k) ≤ file_count w
    by true e = omega (arith, e)
    by false e = omega (arith, e)

-- ---- cookies

-- no cookie above the greatest was given
unfoldable pub AllCookies : Files → Type 0
AllCookies w = (n : ℕ) (f : File) → file_at w n ≡ Some f → (listing_in f.body).next ≤ 4294967295

module _ {X : Type 0} (p : X → Bool) where
  all_found : (es : List (ℕ × X)) → list_all p (map (λ e. e.1) es) ≡ true → (n : ℕ) (v : X)
      → find nat_cmp n es ≡ Some v → p v ≡ true
  all_found [] all n v h = absurd (none_some h)
  all_found (e ∷ es) all n v h =
      let parts = and_parts (p e.1) (list_all p (map (λ (e : ℕ × X). e.1) es)) all in
      elim (eq_by_cmp nat_cmp n e.0) as (λ b. cond b (Some e.1) (find nat_cmp n es) ≡ Some v → p v ≡ true) [
        | true ↦ λ is. ap p (sym (some_same is)) ∙ parts.0
        | false ↦ λ is. all_found es parts.1 n v is
      ] h

  found_all : (es : List (ℕ × X)) → T (is_sorted nat_cmp es)
      → ((n : ℕ) (v : X) → find nat_cmp n es ≡ Some v → p v ≡ true) → list_all p (map (λ e. e.1) es) ≡ true
  found_all [] sorted all = refl
  found_all (e ∷ es) sorted all =
      let b = both_of (below_all nat_cmp e.0 es) (is_sorted nat_cmp es) sorted in
      and_from (p e.1) (list_all p (map (λ (e : ℕ × X). e.1) es))
      (all e.0 e.1 (cond-true _ _ _ (own e.0)))
      (found_all es b.1 (λ n v h. all n v (behind n v b.0 h (eq_by_cmp nat_cmp n e.0) refl)))
    where
      own : (n : ℕ) → eq_by_cmp nat_cmp n n ≡ true
      own n = cmp_same n n refl

      behind : (n : ℕ) (v : X) → T (below_all nat_cmp e.0 es) → find nat_cmp n es ≡ Some v → (b : Bool)
          → eq_by_cmp nat_cmp n e.0 ≡ b → find nat_cmp n (e ∷ es) ≡ Some v
      behind n v below h true is =
          absurd (none_some (sym (ap (λ m. find nat_cmp m es) (same_number n e.0 is)
          ∙ none_above e.0 es below) ∙ h))
      behind n v below h false is = cond-false _ _ _ is ∙ h

-- ---- room

-- no limit is passed, by its parts
pub record IsWithin (w : Files) : Type 0 where
  -- at most 8,192 files
  pub files : file_count w ≤ 8192
  -- at most 16,384 entries of all directories
  pub entries : entry_count w ≤ 16384
  -- at most 32,768 blocks of all files
  pub blocks : block_count w ≤ 32768
  -- the next number fits in 32 bits
  pub next : w.next ≤ 4294967295
  -- and so does each directory's next cookie
  pub cookies : AllCookies w

low_cookie : File → Bool
low_cookie f = nat_le (listing_in f.body).next 4294967295

-- the parts of having room
pub within : (w : Files) → has_room w ≡ true → IsWithin w
unfolding low_cookie AllCookies
within w h =
    let a = and_parts (leb (file_count w) 8192) _ h in
    let b = and_parts (leb (entry_count w) 16384) _ a.1 in
    let c = and_parts (leb (block_count w) 32768) _ b.1 in
    let d = and_parts (leb w.next 4294967295) _ c.1 in
    record {
      files = leb-true _ _ a.0;
      entries = leb-true _ _ b.0;
      blocks = leb-true _ _ c.0;
      next = leb-true _ _ d.0;
      cookies = λ n f there. leb-true _ _
          (all_found low_cookie (finite.entries w.files) d.1 n f
          (sym (finite.get-entries w.files n) ∙ there));
    }

-- room by its parts
pub room : (w : Files) → IsWithin w → has_room w ≡ true
unfolding low_cookie AllCookies
room w h =
    and_from (leb (file_count w) 8192) _ (le-leb _ _ h.files) (
    and_from (leb (entry_count w) 16384) _ (le-leb _ _ h.entries) (
    and_from (leb (block_count w) 32768) _ (le-leb _ _ h.blocks) (
    and_from (leb w.next 4294967295) _ (le-leb _ _ h.next)
    (found_all low_cookie (finite.entries w.files) (finite.entries_sorted w.files)
    (λ n f e. le-leb _ _ (h.cookies n f (finite.get-entries w.files n ∙ e))))
    )
    )
    )

-- ---- what takes no more

-- files take no more than others
pub record IsNoMore (w w' : Files) : Type 0 where
  -- no more files
  pub files : file_count w' ≤ file_count w
  -- no more entries of all directories
  pub entries : entry_count w' ≤ entry_count w
  -- no more blocks of all files
  pub blocks : block_count w' ≤ block_count w
  -- no higher next number
  pub next : w'.next ≤ w.next
  -- each directory's next cookie fits in 32 bits where each did
  pub cookies : AllCookies w → AllCookies w'

-- no more and then no more is no more
pub no_more_then : (u v w : Files) → IsNoMore u v → IsNoMore v w → IsNoMore u w
no_more_then u v w a b =
    record {
      files = omega (arith, a.files, b.files);
      entries = omega (arith, a.entries, b.entries);
      blocks =
          omega (arith, a.blocks, b.blocks);
      next = omega (arith, a.next, b.next);
      cookies =
          λ all. b.cookies (a.cookies all);
    }

-- what takes no more has room
pub still_room : (w w' : Files) → IsNoMore w w' → has_room w ≡ true → has_room w' ≡ true
still_room w w' a h =
    let was = within w h in
    room w' (record {
      files = omega (arith, a.files, was.files);
      entries =
          omega (arith, a.entries, was.entries);
      blocks = omega (arith, a.blocks, was.blocks);
      next =
          omega (arith, a.next, was.next);
      cookies = a.cookies was.cookies;
    })

-- a file that takes no more than another
pub record IsSmaller (f g : File) : Type 0 where
  -- no more entries
  pub entries : length (listing_in g.body).entries ≤ length (listing_in f.body).entries
  -- no more blocks
  pub blocks : blocks_in g.body ≤ blocks_in f.body
  -- no higher next cookie
  pub next : (listing_in g.body).next ≤ (listing_in f.body).next

-- a change to a smaller file takes no more
pub changed_no_more : (w : Files) (k : ℕ) (change : File → File) → ((f : File) → IsSmaller f (change f))
    → IsNoMore w (with_changed_file w k change)
unfolding AllCookies
changed_no_more w k change small = by (file_at w k) refl
  where
    cookies : AllCookies w → (n : ℕ) (f : File) → file_at (with_changed_file w k change) n ≡ Some f
        → (listing_in f.body).next ≤ 4294967295
    cookies all n f h = ⊎_elim
        (λ e. of (file_at w k) refl (sym (changed_here w k change n e) ∙ h))
        (λ ne. all n f (sym (changed_other w k change n ne) ∙ h))
        (cases_eq n k)
      where
        of : (o : Option File) → file_at w k ≡ o → option_map change o ≡ Some f
            → (listing_in f.body).next ≤ 4294967295
        of None e g = absurd (none_some g)
        of (Some old) e g =
            let same = ap (λ (x : File). (listing_in x.body).next) (some_same g) in
            omega (arith, same, all k old e, (small old).next)

    by : (o : Option File) → file_at w k ≡ o → IsNoMore w (with_changed_file w k change)
    by None e = subst (IsNoMore w) (sym (nothing_changes w k change 0 e))
        (record {
          files = omega arith;
          entries = omega arith;
          blocks = omega arith;
          next =
              omega arith;
          cookies = λ all. all;
        })
    by (Some f) e = record {
      files = omega (arith, count_changed w k change);
      entries = omega (
        arith,
        total_changed (λ g. length (listing_in g.body).entries) w k change f e,
        (small f).entries,
      );
      blocks = omega (arith, total_changed (λ g. blocks_in g.body) w k change f e, (small f).blocks);
      next = omega (arith, changed_next w k change 0);
      cookies = cookies;
    }

-- without a file they take no more
pub gone_no_more : (w : Files) (k : ℕ) → IsNoMore w (without_file w k)
unfolding AllCookies
gone_no_more w k = record {
  files = count_gone w k;
  entries = total_gone (λ g. length (listing_in g.body).entries) w k;
  blocks = total_gone (λ g. blocks_in g.body) w k;
  next = omega arith;
  cookies = λ all n g h. ⊎_elim
      (λ e. absurd (none_some (sym (gone_here w k n e) ∙ h)))
      (λ ne. all n g (sym (gone_other w k n ne) ∙ h))
      (cases_eq n k);
}

-- without an entry a list is no longer
pub length-removed : {X : Type 0} (t : List ℕ → Bool) (es : List (List ℕ × X))
    → length (remove_entry t es) ≤ length es
length-removed t [] = omega arith
length-removed t (e ∷ es) =
    elim (t e.0) as (λ b. length (cond b es (e ∷ remove_entry t es)) ≤ length (e ∷ es)) [
      | true ↦ omega arith
      | false ↦ omega (arith, length-removed t es)
    ]

unnamed_smaller : (x : List ℕ) (f : File) → IsSmaller f (map_listing (λ l. without_entry l x) f)
unnamed_smaller x f = record { entries = entries f.body; blocks = blocks f.body; next = next f.body }
  where
    entries : (b : Body) → length (listing_in (map_body_listing (λ l. without_entry l x) b)).entries
        ≤ length (listing_in b).entries
    entries (Regular bytes) = omega arith
    entries (Symlink target) = omega arith
    entries (Directory l) = length-removed (pointwise nat_eq x) l.entries

    blocks : (b : Body) → blocks_in (map_body_listing (λ l. without_entry l x) b) ≤ blocks_in b
    blocks (Regular bytes) = omega arith
    blocks (Symlink target) = omega arith
    blocks (Directory l) = omega arith

    next : (b : Body) → (listing_in (map_body_listing (λ l. without_entry l x) b)).next ≤ (listing_in b).next
    next (Regular bytes) = omega arith
    next (Symlink target) = omega arith
    next (Directory l) = omega arith

-- a name less takes no more
pub unnamed_no_more : (w : Files) (d : ℕ) (x : List ℕ) → IsNoMore w (without_name w d x)
unnamed_no_more w d x = changed_no_more w d (map_listing (λ l. without_entry l x)) (unnamed_smaller x)

-- a file with the same body takes as much
pub same_smaller : (f g : File) → g.body ≡ f.body → IsSmaller f g
same_smaller f g same = record {
  entries = let e = ap (λ b. length (listing_in b).entries) same in omega (arith, e);
  blocks = let e = ap blocks_in same in omega (arith, e);
  next = let e = ap (λ b. (listing_in b).next) same in omega (arith, e);
}
