-- What it says of a server's world that it fits in a text.
-- Serves: rules_tell_states; state_text (checkpoint).
use Rattle.std.proofs.Common.{◌≡◌, ℕ, ◌<◌, ◌≤◌, ◌^◌, Bool, true, false, cond, List, [], ◌∷◌, map, length}
use Rattle.std.proofs.Common.{Some, refl, sym, subst, arith}
use Rattle.std.specs.Prelude.{nat_eq}
use Rattle.std.specs.List.{AllByRecursion}
use Rattle.std.specs.Map.{lookup}
use Rattle.std.specs.Ordering.{nat_cmp, eq_by_cmp}
use Rattle.std.specs.Cmp.Lexicographic.{pointwise, same_text}
use Rattle.std.specs.FinMap as finite
use Rattle.xdr.specs.Item.{Fits, choice}
use Rattle.fs_spec.specs.Maxima.{max_file_size, max_target, max_name, max_files}
use Rattle.fs_spec.specs.Listing.{NamedEntry, entry_at}
use Rattle.fs_spec.specs.Files.{Body, Regular, Symlink, Directory, File, file_at, listing_in}
use Rattle.fs_spec.specs.Files.{directory_entries}
use Rattle.fs_spec.specs.Changes.Limits.{file_count}
use Rattle.fs_spec.proofs.Walks.{none_some, some_same}
use Rattle.fs_spec.proofs.OfChanges.Room.{AllCookies}
use Rattle.fs_spec.proofs.Counts.{file_in, listed_in}
use Rattle.server_spec.specs.World.{World}
use Rattle.server_spec.specs.mount_types.declared.limits.TheConstants.{MNTNAMLEN}
use Rattle.server_spec.specs.mount_types.Mounts.{max_mounts}
use Rattle.server_spec.specs.nfs_laws.Sizes.Bounds.{HasWords}
use Rattle.server_spec.specs.FileItems.{entry_item, file_item, file_value, is_file_kind, kind_item}
use Rattle.server_spec.specs.FileItems.{kind_value, attributes_item, attributes_value}
use Rattle.state_spec.specs.State.{Stage}
use Rattle.state_spec.specs.StateItems.{mount_item, rest_item, world_value}

-- ---- lists

-- what is found in a list has what each item has
found_fits : (n : ℕ) (f : File) (es : List (ℕ × File)) → AllByRecursion (Fits file_item) (map file_value es)
    → lookup (eq_by_cmp nat_cmp n) es ≡ Some f → (m : ℕ) × Fits file_item (file_value (m, f))
found_fits n f [] all h = absurd (none_some h)
found_fits n f (e ∷ es) all h =
    elim (eq_by_cmp nat_cmp n e.0) as (λ b. cond b (Some e.1) (lookup (eq_by_cmp nat_cmp n) es) ≡ Some f
    → (m : ℕ) × Fits file_item (file_value (m, f))) [
      | true ↦ λ is. (e.0, subst (λ f. Fits file_item (file_value (e.0, f))) (some_same is) all.0)
      | false ↦ λ is. found_fits n f es all.1 is
    ] h

-- a name that is found in a list whose names fit
found_name : (name : List ℕ) (p : ℕ × ℕ) (es : List NamedEntry) → AllByRecursion (Fits entry_item) es
    → lookup (pointwise nat_eq name) es ≡ Some p → length name ≤ max_name
found_name name p [] all h = absurd (none_some h)
found_name name p (e ∷ es) all h = by (λ is. found_name name p es all.1 is) (pointwise nat_eq name e.0) refl h
  where
    by : (lookup (pointwise nat_eq name) es ≡ Some p → length name ≤ max_name) → (b : Bool)
        → pointwise nat_eq name e.0 ≡ b
        → cond b (Some e.1) (lookup (pointwise nat_eq name) es) ≡ Some p → length name ≤ max_name
    by next true same is = subst (λ x. length x ≤ max_name) (sym (same_text name e.0 (sym same))) all.0.0.1
    by next false same is = next is

same_length : {A B : Type 0} (f : A → B) (xs : List A) → length (map f xs) ≡ length xs
same_length f [] = refl
same_length f (x ∷ xs) = let rest = same_length f xs in omega arith

-- ---- a file

-- what a body of a file that fits is bounded by
abbrev pub BodyFits : Body → Type 0
BodyFits (Regular bytes) = length bytes ≤ max_file_size
BodyFits (Symlink target) = length target ≤ max_target
BodyFits (Directory l) = (l.next < 2 ^ 32) × AllByRecursion (Fits entry_item) l.entries

body_fits : (f : File) (b : Body) → Fits (choice is_file_kind kind_item) (kind_value f b) → BodyFits b
body_fits f (Regular bytes) h = h.2.1.1
body_fits f (Symlink target) h = h.2.1.1
body_fits f (Directory l) h = (h.2.1.0, h.2.1.1.2)

attributes_fit : (f : File) (b : Body) → Fits (choice is_file_kind kind_item) (kind_value f b)
    → Fits attributes_item (attributes_value f)
attributes_fit f (Regular bytes) h = h.2.0
attributes_fit f (Symlink target) h = h.2.0
attributes_fit f (Directory l) h = h.2.0

low_cookie : (b : Body) → BodyFits b → (listing_in b).next ≤ 4294967295
low_cookie (Regular bytes) h = omega arith
low_cookie (Symlink target) h = omega arith
low_cookie (Directory l) h = omega (arith, h.0)

short_host : (ms : List (List ℕ × List ℕ)) → AllByRecursion (Fits mount_item) ms
    → AllByRecursion (λ (m : List ℕ × List ℕ). length m.0 ≤ MNTNAMLEN) ms
short_host [] all = tt
short_host (m ∷ ms) all = (all.0.0.1, short_host ms all.1)

short_name : (b : Body) (name : List ℕ) (p : ℕ × ℕ) → BodyFits b → entry_at (listing_in b) name ≡ Some p
    → length name ≤ max_name
short_name (Regular bytes) name p h found = absurd (none_some found)
short_name (Symlink target) name p h found = absurd (none_some found)
short_name (Directory l) name p h found = found_name name p l.entries h.1 found

-- ---- a world

module _ (w : World) (stage : Stage) (fits : Fits (rest_item file_item 1)
    (world_value file_item file_value w stage)) where
  file_fits : (n : ℕ) (f : File) → file_at w.files n ≡ Some f → (m : ℕ) × Fits file_item (file_value (m, f))
  file_fits n f there = found_fits n f (finite.entries w.files.files) fits.1.1.1.2 (file_in w.files n f there)

  -- bodies are within their bounds
  pub body_at : (n : ℕ) (f : File) → file_at w.files n ≡ Some f → BodyFits f.body
  body_at n f there = body_fits f f.body (file_fits n f there).1.1

  -- attributes are words
  pub attributes_at : (n : ℕ) (f : File) → file_at w.files n ≡ Some f
      → Fits attributes_item (attributes_value f)
  attributes_at n f there = attributes_fit f f.body (file_fits n f there).1.1

  -- the numbers of each file are words
  pub words_at : (n : ℕ) (f : File) → file_at w.files n ≡ Some f → HasWords f
  words_at n f there =
      let a = attributes_at n f there in
      record { uid = a.1.0; gid = a.1.1.0; atime = a.1.1.1.0.0; mtime = a.1.1.1.1.0.0; ctime = a.1.1.1.1.1.0 }

  -- there are no more files than a server may have
  pub few_files : file_count w.files ≤ max_files
  few_files =
      let same = finite.len-entries w.files.files in
      omega (arith, same, same_length file_value (finite.entries w.files.files), fits.1.1.1.1)

  -- next cookies are numbers that may be next
  pub cookies_at : AllCookies w.files
  unfolding AllCookies
  cookies_at n f there = low_cookie f.body (body_at n f there)

  -- the next file's number is a word
  pub next_word : w.files.next < 2 ^ 32
  next_word = fits.1.0

  -- there are no more mounts than a server may have
  pub few_mounts : length w.mounts ≤ max_mounts
  few_mounts = fits.1.1.0.1

  -- each of them is by a machine whose name is within its limit
  pub short_hosts : AllByRecursion (λ (m : List ℕ × List ℕ). length m.0 ≤ MNTNAMLEN) w.mounts
  short_hosts = short_host w.mounts fits.1.1.0.2

  -- names are within their bound
  pub short_names : (n : ℕ) (name : List ℕ) (p : ℕ × ℕ) → directory_entries w.files n name ≡ Some p
      → length name ≤ max_name
  short_names n name p found =
      let f = listed_in w.files n name p found in
      short_name f.0.body name p (body_at n f.0 f.1) f.2
