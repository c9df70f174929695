-- A server's world fits in a text: what files that are a tree within all limits ask for, and its mounts.
-- Serves: the states of machines (state_machine), the entries that a state keeps (state_machine::states).
use Rattle.std.proofs.Common.{◌≡◌, ℕ, ◌+◌, ◌<◌, ◌≤◌, ◌^◌, Bool, true, false, cond, T, List, [], ◌∷◌, map}
use Rattle.std.proofs.Common.{length, Some, IsSome, is_some, option_and_then, nat_eq, refl, sym, ap, subst}
use Rattle.std.proofs.Common.{◌∙◌, arith}
use Rattle.std.specs.List.{AllByRecursion, IsDistinct}
use Rattle.std.specs.Map.{lookup}
use Rattle.std.specs.Ordering.{nat_cmp, eq_by_cmp}
use Rattle.std.specs.Cmp.Lexicographic.{pointwise, nat_list_eq_equiv}
use Rattle.std.specs.FinMap as finite
use Rattle.std.specs.FinMap.Entries.{find, below_all, is_sorted}
use Rattle.std.proofs.lemmas.Bool.{cond-true, cond-false}
use Rattle.std.proofs.lemmas.List.{length-map}
use Rattle.xdr.specs.Item.{Fits, array, choice}
use Rattle.server_spec.specs.mount_types.Calls.{Mount}
use Rattle.server_spec.specs.mount_types.Mounts.{IsMount}
use Rattle.fs_spec.specs.Maxima.{max_files, max_entries, max_name}
use Rattle.fs_spec.specs.Listing.{Listing, NamedEntry, entry_at, IsRising, HasDistinctNames}
use Rattle.fs_spec.specs.Files.{Body, Regular, Symlink, Directory, File, Files, file_at}
use Rattle.fs_spec.specs.Files.{listing_in, directory_entries}
use Rattle.fs_spec.specs.Trees.{IsBody, IsFileTree}
use Rattle.fs_spec.proofs.Counts.{same_number}
use Rattle.fs_spec.proofs.Reached.{both_of, not_before}
use Rattle.fs_spec.proofs.Walks.{none_some}
use Rattle.fs_spec.proofs.OfChanges.Finite.{cmp_same, none_above, total_without}
use Rattle.fs_spec.proofs.OfChanges.Listings.{name_self}
use Rattle.fs_spec.proofs.OfChanges.Room.{AllCookies, IsWithin, within}
use Rattle.server_spec.specs.nfs_laws.Sizes.Bounds.{AreWords}
use Rattle.server_spec.specs.World.{World}
use Rattle.server_spec.specs.IsWorld.{IsWorld}
use Rattle.server_spec.specs.FileItems.{entry_item, attributes_item, attributes_value, is_file_kind}
use Rattle.server_spec.specs.FileItems.{kind_item, kind_value, file_item, file_value}
use Rattle.state_spec.specs.State.{Stage}
use Rattle.state_spec.specs.StateItems.{mount_item, stage_item, stage_value, rest_item, world_value}

-- ---- entries

module _ {X : Type 0} (P : ℕ → X → Type 0) where
  -- what holds of all that is found in entries whose numbers rise holds of each of them
  pub all_found : (es : List (ℕ × X)) → T (is_sorted nat_cmp es)
      → ((n : ℕ) (v : X) → find nat_cmp n es ≡ Some v → P n v)
      → AllByRecursion (λ (e : ℕ × X). P e.0 e.1) es
  all_found [] sorted holds = tt
  all_found (e ∷ es) sorted holds =
      let b = both_of (below_all nat_cmp e.0 es) (is_sorted nat_cmp es) sorted in (
        holds e.0 e.1 (cond-true _ _ _ (cmp_same e.0 e.0 refl)),
        all_found es b.1 (λ n v at. holds n v (behind n v b.0 at (eq_by_cmp nat_cmp n e.0) refl)),
      )
    where
      behind : (n : ℕ) (v : X) → T (below_all nat_cmp e.0 es) → find nat_cmp n es ≡ Some v → (b : Bool)
          → eq_by_cmp nat_cmp n e.0 ≡ b → find nat_cmp n (e ∷ es) ≡ Some v
      behind n v below at true is =
          absurd (none_some (sym (ap (λ m. find nat_cmp m es) (same_number n e.0 is)
          ∙ none_above e.0 es below) ∙ at))
      behind n v below at false is = cond-false _ _ _ is ∙ at

-- what holds of what each item gives holds of all that is given
pub all_mapped : {A B : Type 0} (f : A → B) (P : B → Type 0) (xs : List A) → AllByRecursion (λ x. P (f x)) xs
    → AllByRecursion P (map f xs)
all_mapped f P [] all = tt
all_mapped f P (x ∷ xs) all = (all.0, all_mapped f P xs all.1)

-- ---- a directory's entries

module _ (P : List ℕ → ℕ × ℕ → Type 0) where
  -- what holds of each look-up holds of each entry
  all_named : (es : List NamedEntry) → HasDistinctNames es
      → ((name : List ℕ) (v : ℕ × ℕ) → lookup (pointwise nat_eq name) es ≡ Some v → P name v)
      → AllByRecursion (λ (e : NamedEntry). P e.0 e.1) es
  unfolding IsDistinct
  all_named [] distinct holds = tt
  all_named (e ∷ es) distinct holds = (
    holds e.0 e.1 (ap (λ b. cond b (Some e.1) (lookup (pointwise nat_eq e.0) es)) (name_self e.0)),
    all_named es distinct.1 (λ name v at. holds name v (behind name v at (pointwise nat_eq name e.0) refl)),
  )
    where
      behind : (name : List ℕ) (v : ℕ × ℕ) → lookup (pointwise nat_eq name) es ≡ Some v → (b : Bool)
          → pointwise nat_eq name e.0 ≡ b
          → cond (pointwise nat_eq name e.0) (Some e.1) (lookup (pointwise nat_eq name) es) ≡ Some v
      behind name v at true same =
          absurd (none_some (sym (not_before nat_list_eq_equiv e.0 name same es distinct.0) ∙ at))
      behind name v at false other = ap (λ b. cond b (Some e.1) (lookup (pointwise nat_eq name) es)) other
          ∙ at

at_most : (low : ℕ) (es : List NamedEntry) (high : ℕ) → IsRising low es high → low ≤ high
at_most low [] high h = h
at_most low (e ∷ es) high h = omega (arith, h.0, at_most (e.1.1 + 1) es high h.1)

-- entries whose names are short and whose numbers are words fit, where their cookies rise to a word
each_fits : (low : ℕ) (es : List NamedEntry) (high : ℕ) → high ≤ 4294967295 → IsRising low es high
    → AllByRecursion (λ (e : NamedEntry). (e.1.0 < 2 ^ 32) × (length e.0 ≤ max_name)) es
    → AllByRecursion (Fits entry_item) es
each_fits low [] high le h all = tt
each_fits low (e ∷ es) high le h all = (
  ((omega (arith, all.0.1), all.0.1), (all.0.0, omega (arith, le, at_most (e.1.1 + 1) es high h.1))),
  each_fits (e.1.1 + 1) es high le h.1 all.1,
)

-- ---- files

module _ (w : Files) (tree : IsFileTree w) (room : IsWithin w) (words : AreWords w) where
  number_fits : (n : ℕ) → IsSome (file_at w n) → n < 2 ^ 32
  number_fits n there = omega (arith, (tree.numbers n there).1, room.next)

  attributes_fit : (n : ℕ) (f : File) → file_at w n ≡ Some f → Fits attributes_item (attributes_value f)
  attributes_fit n f there =
      let own = tree.files n f there in
      let have = words.files n f there in (
        omega (arith, own.mode),
        (
          have.uid,
          (
            have.gid,
            (
              (have.atime, omega (arith, own.atime)),
              ((have.mtime, omega (arith, own.mtime)), (have.ctime, omega (arith, own.ctime))),
            ),
          ),
        ),
      )

  entries_fit : (n : ℕ) (f : File) (l : Listing) → file_at w n ≡ Some f → f.body ≡ Directory l
      → Fits (array max_entries entry_item) l.entries
  unfolding AllCookies
  entries_fit n f l there own =
      let body : IsBody (Directory l) = subst IsBody own (tree.files n f there).body in
      let same : listing_in f.body ≡ l = ap listing_in own in
      let next = ap (λ (l : Listing). l.next) same in
      let count = ap (λ (l : Listing). length l.entries) same in
      let few : length l.entries ≤ max_entries =
      omega (
        arith,
        total_without (λ g. length (listing_in g.body).entries) w n f
            there,
        count,
        room.entries,
      ) in (
        omega (arith, few),
        few,
        each_fits 3 l.entries l.next (omega (arith, next, room.cookies n f there)) body.0
            (all_named (λ name v. (v.0 < 2 ^ 32) × (length name ≤ max_name)) l.entries body.1 (λ name v at.
            let its_entry : directory_entries w n name ≡ Some v =
            ap (option_and_then (λ f. entry_at (listing_in f.body) name)) there
            ∙ ap (λ l. entry_at l name) same ∙ at in (
              number_fits v.0 (tree.tree.named n name v.0 v.1 its_entry),
              (tree.names n name (ap is_some its_entry)).1,
            ))),
      )

  kind_fits : (n : ℕ) (f : File) (b : Body) → file_at w n ≡ Some f → f.body ≡ b
      → Fits (choice is_file_kind kind_item) (kind_value f b)
  unfolding AllCookies
  kind_fits n f (Regular bytes) there own =
      let size : IsBody (Regular bytes) = subst IsBody own (tree.files n f there).body in
      (omega arith, refl, (attributes_fit n f there, (omega (arith, size), size)))
  kind_fits n f (Symlink target) there own =
      let size : IsBody (Symlink target) = subst IsBody own (tree.files n f there).body in
      (omega arith, refl, (attributes_fit n f there, (omega (arith, size), size)))
  kind_fits n f (Directory l) there own =
      let next = ap (λ b. (listing_in b).next) own in (
        omega arith,
        refl,
        (
          attributes_fit n f there,
          (
            omega (arith, next, room.cookies n f there),
            entries_fit n f l there
                own,
          ),
        ),
      )

  -- files that are a tree within all limits fit in a text
  pub files_fit : Fits (array max_files file_item) (map file_value (finite.entries w.files))
  files_fit =
      let es = finite.entries w.files in
      let few : length (map file_value es) ≤ max_files =
      omega (arith, length-map es file_value, finite.len-entries w.files, room.files) in (
        omega (arith, few),
        few,
        all_mapped file_value (Fits file_item) es (all_found (λ n f. Fits file_item (file_value (n, f))) es
            (finite.entries_sorted w.files) (λ n f at.
            let there = finite.get-entries w.files n ∙ at in
            (number_fits n (ap is_some there), kind_fits n f f.body there refl))),
      )

-- ---- mounts

-- a machine's name and the path of the root fit
mount_fits : (m : Mount) → IsMount m → Fits mount_item m
mount_fits m is =
    let one = ap (λ (path : List ℕ). length path) is.1 in
    ((omega (arith, is.0), is.0), (omega (arith, one), omega (arith, one)))

mounts_fit : (mounts : List Mount) → AllByRecursion IsMount mounts → AllByRecursion (Fits mount_item) mounts
mounts_fit [] each = tt
mounts_fit (m ∷ mounts) each = (mount_fits m each.0, mounts_fit mounts each.1)

-- ---- a world

-- a server's world fits in a text, where its stage does
pub world_fits : (node : ℕ) (w : World) (stage : Stage) → IsWorld node w → Fits stage_item (stage_value stage)
    → Fits (rest_item file_item 1) (world_value file_item file_value w stage)
world_fits node w stage h fits =
    let room = within w.files h.room in (
      fits,
      (
        omega (arith, room.next),
        (
          (omega (arith, h.mounts.count), h.mounts.count, mounts_fit w.mounts h.mounts.each),
          files_fit w.files h.tree room h.words,
        ),
      ),
    )
