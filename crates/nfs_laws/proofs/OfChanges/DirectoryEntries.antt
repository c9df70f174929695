-- What a directory lists after names come and go, and where its file stands (`IsAt`) after each change.
-- Serves: making_keeps_the_rest, removing_keeps_the_rest, renaming_keeps_the_rest (changes), by
-- NamedFiles and RenamedFiles.
use Rattle.std.proofs.Common.{◌≡◌, ◌≢◌, ℕ, ◌+◌, true, false, cond, List, [], ◌∷◌, ◌++◌, Some, None}
use Rattle.std.proofs.Common.{option_map, nat_eq, refl, sym, ap, ◌∙◌}
use Rattle.std.specs.Map.{lookup, remove_entry}
use Rattle.std.specs.Cmp.Lexicographic.{pointwise}
use Rattle.nfs_spec.specs.nfs_items.Timeval.{Timeval}
use Rattle.nfs_spec.specs.fs_spec.Listing.{Listing, entry_at, with_entry, without_entry, HasDistinctNames}
use Rattle.nfs_spec.specs.fs_spec.Files.{Body, Regular, Symlink, Directory, File, Files, file_at}
use Rattle.nfs_spec.specs.fs_spec.Files.{is_directory}
use Rattle.nfs_spec.proofs.fs_spec.Walks.{none_some}
use Rattle.nfs_spec.specs.fs_spec.Changes.Edits.{with_changed_file, map_listing}
use Rattle.nfs_spec.proofs.fs_spec.OfChanges.Finite.{changed_here, changed_other}
use Rattle.nfs_spec.proofs.fs_spec.OfChanges.Listings.{without_entry_here}
use Rattle.nfs_spec.specs.Changes.{touch, with_mtime, with_ctime}
use Rattle.nfs_laws.specs.Changes.Changed.{Becomes, ChangesCtime, IsTouched}

module _ {X : Type 0} (x : List ℕ) where
  free_removed : (es : List (List ℕ × X)) → lookup (pointwise nat_eq x) es ≡ None
      → remove_entry (pointwise nat_eq x) es ≡ es
  free_removed [] h = refl
  free_removed (e ∷ es) h =
      elim (pointwise nat_eq x e.0) as (λ b. cond b (Some e.1) (lookup (pointwise nat_eq x) es) ≡ None
      → cond b es (e ∷ remove_entry (pointwise nat_eq x) es) ≡ e ∷ es) [
        | true ↦ λ is. absurd (none_some (sym is))
        | false ↦ λ is. ap (λ t. e ∷ t) (free_removed es is)
      ] h

-- without a name that it does not list a listing is as it was
pub without_free : (l : Listing) (x : List ℕ) → entry_at l x ≡ None → without_entry l x ≡ l
without_free l x free = λ i. record { next = l.next; entries = free_removed x l.entries free i }

-- a new entry puts an old one of its name out, which may as well have gone before
pub with_without : (l : Listing) (x : List ℕ) (k : ℕ) → HasDistinctNames l.entries
    → with_entry (without_entry l x) x k ≡ with_entry l x k
with_without l x k distinct =
    let same = free_removed x (without_entry l x).entries (without_entry_here l x distinct) in
    λ i. record { next = l.next + 1; entries = same i ++ (x, (k, l.next)) ∷ [] }

-- ---- where a directory's file stands

-- it has these times and lists these names, and its other attributes are those of a file
pub record IsAt (v : Files) (d : ℕ) (f : File) (mtime ctime : Timeval) (l : Listing) : Type 0 where
  -- the number has the file with these times and names
  pub at : file_at v d ≡ Some (record f { mtime = mtime; ctime = ctime; body = Directory l })

-- a directory's body is a listing
pub listing_of : (b : Body) → is_directory b ≡ true → (l : Listing) × (b ≡ Directory l)
listing_of (Regular bytes) h = absurd cc
listing_of (Symlink target) h = absurd cc
listing_of (Directory l) h = (l, refl)

-- as it stands at first
pub begins_at : (w : Files) (d : ℕ) (f : File) (l : Listing) → file_at w d ≡ Some f → f.body ≡ Directory l
    → IsAt w d f f.mtime f.ctime l
begins_at w d f l there is = record { at = there ∙ ap (λ b. Some (record f { body = b })) is }

module _ (v : Files) (d : ℕ) (f : File) (mtime ctime : Timeval) (l : Listing)
    (a : IsAt v d f mtime ctime l) where
  -- it stays where the number's file stays
  pub at_same : (u : Files) → file_at u d ≡ file_at v d → IsAt u d f mtime ctime l
  at_same u h = record { at = h ∙ a.at }

  -- it stays under a change of another number
  pub at_other : (k : ℕ) (change : File → File) → d ≢ k
      → IsAt (with_changed_file v k change) d f mtime ctime l
  at_other k change ne = at_same (with_changed_file v k change) (changed_other v k change d ne)

  -- with other names
  pub at_relisted : (change : Listing → Listing)
      → IsAt (with_changed_file v d (map_listing change)) d f mtime ctime (change l)
  at_relisted change =
      record { at = changed_here v d (map_listing change) d refl ∙ ap (option_map (map_listing change)) a.at }

  -- with its times now
  pub at_touched : (now : Timeval) → IsAt (touch now v d) d f now now l
  at_touched now =
      record { at = changed_here v d (with_mtime now) d refl ∙ ap (option_map (with_mtime now)) a.at }

-- a directory was touched, with its names changed so
pub becomes_touched : (now : Timeval) (w w' : Files) (d : ℕ) (f : File) (l m : Listing)
    (change : Listing → Listing) → file_at w d ≡ Some f → f.body ≡ Directory l → IsAt w' d f now now m
    → m ≡ change l → Becomes w w' d (IsTouched now change)
becomes_touched now w w' d f l m change there is a e = record {
  old = f;
  new = record f { mtime = now; ctime = now; body = Directory m };
  was = there;
  is = a.at;
  change = record {
    listing = l;
    was = is;
    is =
        ap (λ n. record f { mtime = now; ctime = now; body = Directory n }) e;
  };
}

-- a file was marked
pub becomes_marked : (now : Timeval) (w w' : Files) (n : ℕ) (f : File) → file_at w n ≡ Some f
    → file_at w' n ≡ Some (with_ctime now f) → Becomes w w' n (ChangesCtime now)
becomes_marked now w w' n f there is =
    record { old = f; new = with_ctime now f; was = there; is = is; change = refl }
