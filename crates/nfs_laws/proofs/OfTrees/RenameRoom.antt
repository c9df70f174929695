-- RENAME takes no room but for a cookie.
-- Serves: no_limit_is_passed.
use Rattle.std.proofs.Common.{◌≡◌, ℕ, ◌+◌, ◌≤◌, Bool, true, false, cond, List, [], ◌∷◌, length, Option, Some}
use Rattle.std.proofs.Common.{None, nat_eq, option_and_then, refl, sym, ap, ◌∙◌, arith}
use Rattle.std.specs.Map.{lookup, remove_entry}
use Rattle.std.specs.Cmp.Lexicographic.{pointwise}
use Rattle.nfs_spec.specs.nfs_items.Timeval.{Timeval}
use Rattle.nfs_spec.specs.fs_spec.Listing.{entry_at, without_entry}
use Rattle.nfs_spec.specs.fs_spec.Files.{Body, Regular, Symlink, Directory, File, Files, file_at, listing_in}
use Rattle.nfs_spec.specs.fs_spec.Files.{is_directory, directory_entries}
use Rattle.nfs_spec.proofs.fs_spec.Walks.{none_some}
use Rattle.nfs_spec.specs.fs_spec.Changes.Edits.{map_listing, map_body_listing, with_name, without_name}
use Rattle.nfs_spec.specs.fs_spec.Changes.Limits.{entry_count, has_room}
use Rattle.nfs_spec.proofs.fs_spec.OfChanges.Finite.{total_changed}
use Rattle.nfs_spec.proofs.fs_spec.OfChanges.Room.{within, IsNoMore, no_more_then, still_room}
use Rattle.nfs_spec.proofs.fs_spec.OfChanges.Room.{unnamed_no_more}
use Rattle.nfs_spec.specs.Changes.{touch, touch_ctime}
use Rattle.nfs_spec.specs.Procedures.{unlink_target, move_entry}
use Rattle.nfs_laws.proofs.OfTrees.EditRoom.{touch_no_more, mark_no_more, unlink_no_more, free_in, named_has}

length-one_less : {X : Type 0} (t : List ℕ → Bool) (v : X) (es : List (List ℕ × X)) → lookup t es ≡ Some v
    → length (remove_entry t es) + 1 ≡ length es
length-one_less t v [] h = absurd (none_some h)
length-one_less t v (e ∷ es) h =
    elim (t e.0) as (λ b. cond b (Some e.1) (lookup t es) ≡ Some v
    → length (cond b es (e ∷ remove_entry t es)) + 1 ≡ length (e ∷ es)) [
      | true ↦ λ is. omega arith
      | false ↦ λ is. omega (arith, length-one_less t v es is)
    ] h

-- ---- bodies

taken_one : (x : List ℕ) (v : ℕ × ℕ) (b : Body) → entry_at (listing_in b) x ≡ Some v
    → length (listing_in (map_body_listing (λ l. without_entry l x) b)).entries + 1
    ≡ length (listing_in b).entries
taken_one x v (Regular bytes) h = absurd (none_some h)
taken_one x v (Symlink target) h = absurd (none_some h)
taken_one x v (Directory l) h = length-one_less (pointwise nat_eq x) v l.entries h

-- ---- an entry less

one_less : (w : Files) (d : ℕ) (x : List ℕ) (v : ℕ × ℕ) → directory_entries w d x ≡ Some v
    → entry_count (without_name w d x) + 1 ≡ entry_count w
one_less w d x v h = by (file_at w d) refl
  where
    by : (o : Option File) → file_at w d ≡ o → entry_count (without_name w d x) + 1 ≡ entry_count w
    by None e = absurd (none_some (sym (ap (option_and_then (λ f. entry_at (listing_in f.body) x)) e) ∙ h))
    by (Some f) e =
        let had = taken_one x v f.body
        (sym (ap (option_and_then (λ f. entry_at (listing_in f.body) x)) e) ∙ h) in
        omega (
          arith,
          had,
          total_changed (λ g. length (listing_in g.body).entries) w d
              (map_listing (λ l. without_entry l x)) f e,
        )

-- ---- the whole

-- what goes to make room at the new name takes nothing
cleared_no_more : (now : Timeval) (w : Files) (d : ℕ) (x : List ℕ) (o : Option ℕ)
    → IsNoMore w (unlink_target now w d x o)
cleared_no_more now w d x None =
    record {
      files = omega arith;
      entries = omega arith;
      blocks = omega arith;
      next = omega arith;
      cookies =
          λ all. all;
    }
cleared_no_more now w d x (Some n) = unlink_no_more now w d x n

-- where the target directory's next cookie may be given, a rename passes no limit that was kept
pub moved_room : (now : Timeval) (w : Files) (s d₁ : ℕ) (x₁ : List ℕ) (d₂ : ℕ) (x₂ : List ℕ) (o : Option ℕ)
    (v : ℕ × ℕ) → directory_entries (unlink_target now w d₂ x₂ o) d₁ x₁ ≡ Some v → (f : File)
    → file_at (without_name (unlink_target now w d₂ x₂ o) d₁ x₁) d₂ ≡ Some f → is_directory f.body ≡ true
    → directory_entries (without_name (unlink_target now w d₂ x₂ o) d₁ x₁) d₂ x₂ ≡ None
    → (listing_in f.body).next ≤ 4294967294
    → has_room w ≡ true → has_room (move_entry now w s d₁ x₁ d₂ x₂ o) ≡ true
moved_room now w s d₁ x₁ d₂ x₂ o v source f there is free low h =
    let w₁ = unlink_target now w d₂ x₂ o in
    let w₂ = without_name w₁ d₁ x₁ in
    let w₃ = with_name w₂ d₂ x₂ s in
    let w₄ = touch_ctime now w₃ s in
    let w₅ = touch now w₄ d₁ in
    let w₆ = touch now w₅ d₂ in
    let was = within w h in
    let first = cleared_no_more now w d₂ x₂ o in
    let both = no_more_then w w₁ w₂ first (unnamed_no_more w₁ d₁ x₁) in
    let less = one_less w₁ d₁ x₁ v source in
    let times = no_more_then w₃ w₄ w₆ (mark_no_more now w₃ s)
    (no_more_then w₄ w₅ w₆ (touch_no_more now w₄ d₁) (touch_no_more now w₅ d₂)) in
    still_room w₃ w₆ times
    (named_has w₂ d₂ x₂ s f there is (free_in w₂ d₂ x₂ f there free) (both.cookies was.cookies) (record {
      files = omega (arith, both.files, was.files);
      entries = omega (arith, less, first.entries, was.entries);
      blocks = omega (arith, both.blocks, was.blocks);
      next = omega (arith, both.next, was.next);
      cookie = low;
    }))
