-- Values of answers fit: stats, attributes, numbers, and the entries of a page.
-- Serves: `laws::answers_have_a_spelling`, by OfCalls.
use Rattle.std.proofs.Common.{◌≡◌, ℕ, ◌+◌, ◌-◌, ◌<◌, ◌≤◌, ◌^◌, Bool, true, false, cond, List, [], ◌∷◌, length}
use Rattle.std.proofs.Common.{map, min, Some, IsSome, is_some, Result, Ok, Err, option_map, option_and_then}
use Rattle.std.proofs.Common.{sum_by, refl, sym, ap, subst, ◌∙◌, arith}
use Rattle.std.specs.Prelude.{nat_lt, nat_le, nat_eq, ◌==◌}
use Rattle.std.specs.List.{filter, AllByRecursion, IsDistinct}
use Rattle.std.specs.Map.{lookup}
use Rattle.std.specs.Cmp.Lexicographic.{pointwise, nat_list_eq_equiv}
use Rattle.std.specs.FinMap as finite
use Rattle.std.proofs.Math.Nat.{div-le_self}
use Rattle.std.proofs.lemmas.List.Sums.{sum_by-cons, sum_by-le-sum_by, count_by-le-length}
use Rattle.xdr.specs.Item.{Item, Value, Fits}
use Rattle.nfs_spec.specs.nfs_items.Attributes.{ftype, ftype_number, fattr, fattr_value, stat_or, stat_value}
use Rattle.nfs_spec.specs.nfs_items.Attributes.{outcome_value}
use Rattle.nfs_spec.specs.nfs_items.declared.stat.Stat.{Stat}
use Rattle.nfs_spec.specs.nfs_items.declared.stat.Stat.TheVariants as stats
use Rattle.nfs_spec.specs.fs_spec.Listing.{Listing, entry_at, IsRising, HasDistinctNames}
use Rattle.nfs_spec.specs.fs_spec.Files.{Body, Regular, Symlink, Directory, File, Files, file_at, listing_in}
use Rattle.nfs_spec.specs.fs_spec.Files.{is_directory, directory_entries, one_if, names_in, parent_of}
use Rattle.nfs_spec.specs.fs_spec.Trees.{IsBody, IsFileTree}
use Rattle.nfs_spec.proofs.fs_spec.Walks.{none_some}
use Rattle.nfs_spec.proofs.fs_spec.Reached.{not_before}
use Rattle.nfs_spec.proofs.fs_spec.Parents.{parent_there}
use Rattle.nfs_spec.specs.fs_spec.Changes.Limits.{entry_count}
use Rattle.nfs_spec.proofs.fs_spec.OfChanges.Finite.{total_without}
use Rattle.nfs_spec.proofs.fs_spec.OfChanges.Listings.{name_self}
use Rattle.nfs_spec.proofs.fs_spec.OfChanges.Room.{AllCookies, IsWithin}
use Rattle.nfs_spec.specs.FileAttributes.{type_of, type_bits, nlink_of, size_of, is_directory_at}
use Rattle.nfs_spec.specs.FileAttributes.{attributes_of}
use Rattle.nfs_spec.specs.nfs_types.Calls.{PageEntry}
use Rattle.nfs_spec.specs.Readdir.{dir_entries, cost, longest_front, page_of}
use Rattle.nfs_laws.specs.Sizes.Bounds.{AreWords}

-- ---- stats

stat_fits : (a : Item) (e : Stat) → Fits (stat_or a) (stat_value a e)
stat_fits a stats.Perm = (omega arith, refl, tt)
stat_fits a stats.NoEnt = (omega arith, refl, tt)
stat_fits a stats.Io = (omega arith, refl, tt)
stat_fits a stats.NxIo = (omega arith, refl, tt)
stat_fits a stats.Acces = (omega arith, refl, tt)
stat_fits a stats.Exist = (omega arith, refl, tt)
stat_fits a stats.NoDev = (omega arith, refl, tt)
stat_fits a stats.NotDir = (omega arith, refl, tt)
stat_fits a stats.IsDir = (omega arith, refl, tt)
stat_fits a stats.FBig = (omega arith, refl, tt)
stat_fits a stats.NoSpc = (omega arith, refl, tt)
stat_fits a stats.RoFs = (omega arith, refl, tt)
stat_fits a stats.NameTooLong = (omega arith, refl, tt)
stat_fits a stats.NotEmpty = (omega arith, refl, tt)
stat_fits a stats.DQuot = (omega arith, refl, tt)
stat_fits a stats.Stale = (omega arith, refl, tt)
stat_fits a stats.WFlush = (omega arith, refl, tt)

-- a result fits where its value does, and a stat always
pub outcome_fits : {X : Type 0} (a : Item) (view : X → Value a) (r : Result X Stat)
    → ((x : X) → r ≡ Ok x → Fits a (view x)) → Fits (stat_or a) (outcome_value a view r)
outcome_fits a view (Ok x) fits = (omega arith, refl, fits x refl)
outcome_fits a view (Err e) fits = stat_fits a e

-- ---- attributes

names_few : (n : ℕ) (es : List (List ℕ × (ℕ × ℕ))) → sum_by (one_if n) es ≤ length es
names_few n [] = omega arith
names_few n (e ∷ es) = let parts = sum_by-cons (one_if n) e es in
    omega (arith, parts, names_few n es, one_few (e.1.0 == n))
  where
    one_few : (b : Bool) → cond b 1 0 ≤ 1
    one_few true = omega arith
    one_few false = omega arith

length_few : (w : Files) (n : ℕ) (f : File) → file_at w n ≡ Some f
    → length (listing_in f.body).entries ≤ entry_count w
length_few w n f there = omega (arith, total_without (λ g. length (listing_in g.body).entries) w n f there)

nlink_few : (w : Files) (n : ℕ) (f : File) → file_at w n ≡ Some f → (b : Body)
    → listing_in f.body ≡ listing_in b → nlink_of w n b ≤ entry_count w + 2
nlink_few w n f there (Regular bytes) same =
    omega (
      arith,
      sum_by-le-sum_by (names_in n) (λ g. length (listing_in g.body).entries)
          (finite.values w.files) (λ g. names_few n (listing_in g.body).entries),
    )
nlink_few w n f there (Symlink target) same =
    omega (
      arith,
      sum_by-le-sum_by (names_in n) (λ g. length (listing_in g.body).entries)
          (finite.values w.files) (λ g. names_few n (listing_in g.body).entries),
    )
nlink_few w n f there (Directory l) same =
    omega (
      arith,
      count_by-le-length (λ (e : List ℕ × (ℕ × ℕ)). is_directory_at w e.1.0) l.entries,
      length_few w n f there,
      ap (λ (l : Listing). length l.entries) same,
    )

bits_few : (b : Body) → type_bits b ≤ 40960
bits_few (Regular bytes) = omega arith
bits_few (Symlink target) = omega arith
bits_few (Directory l) = omega arith

size_few : (b : Body) → IsBody b → size_of b ≤ 1048576
size_few (Regular bytes) h = omega (arith, h)
size_few (Symlink target) h = omega (arith, h)
size_few (Directory l) h = omega arith

type_fits : (b : Body) → Fits ftype (ftype_number (type_of b), tt)
type_fits (Regular bytes) = (omega arith, refl, tt)
type_fits (Symlink target) = (omega arith, refl, tt)
type_fits (Directory l) = (omega arith, refl, tt)

-- files that are a tree, pass no limit, and fit in words
pub record AreSpelled (w : Files) : Type 0 where
  -- they are a tree
  pub tree : IsFileTree w
  -- no limit is passed
  pub room : IsWithin w
  -- owners, groups and seconds are words
  pub words : AreWords w

-- the number of a file is a word
pub number_fits : (w : Files) → AreSpelled w → (n : ℕ) → IsSome (file_at w n) → n < 2 ^ 32
number_fits w h n there = omega (arith, (h.tree.numbers n there).1, h.room.next)

-- and so are its attributes, each within its own bound
pub attributes_fit : (w : Files) → AreSpelled w → (n : ℕ) (f : File) → file_at w n ≡ Some f
    → Fits fattr (fattr_value (attributes_of w n f))
attributes_fit w h n f there =
    let own = h.tree.files n f there in
    let words = h.words.files n f there in
    let size = size_few f.body own.body in
    let blocks = div-le_self (size_of f.body + 511) 512 in (
      type_fits f.body,
      (
        omega (arith, own.mode, bits_few f.body),
        (
          omega (arith, nlink_few w n f there f.body refl, h.room.entries),
          (
            words.uid,
            (
              words.gid,
              (
                omega (arith, size),
                (
                  omega arith,
                  (
                    omega arith,
                    (
                      omega (arith, size, blocks),
                      (
                        h.words.fsid,
                        (
                          number_fits w h n (ap is_some there),
                          (
                            (words.atime, omega (arith, own.atime)),
                            (
                              (words.mtime, omega (arith, own.mtime)),
                              (words.ctime, omega (arith, own.ctime)),
                            ),
                          ),
                        ),
                      ),
                    ),
                  ),
                ),
              ),
            ),
          ),
        ),
      ),
    )

-- ---- entries

module _ (P : List ℕ → ℕ × ℕ → Type 0) where
  -- what holds of each look-up holds of each entry
  all_entries : (es : List (List ℕ × (ℕ × ℕ))) → HasDistinctNames es
      → ((name : List ℕ) (v : ℕ × ℕ) → lookup (pointwise nat_eq name) es ≡ Some v → P name v)
      → AllByRecursion (λ e. P e.0 e.1) es
  unfolding IsDistinct
  all_entries [] distinct holds = tt
  all_entries (e ∷ es) distinct holds = (
    holds e.0 e.1 (ap (λ b. cond b (Some e.1) (lookup (pointwise nat_eq e.0) es)) (name_self e.0)),
    all_entries es distinct.1 (λ name v at. holds name v (behind name v at (pointwise nat_eq name e.0) refl)),
  )
    where
      behind : (name : List ℕ) (v : ℕ × ℕ) → lookup (pointwise nat_eq name) es ≡ Some v → (b : Bool)
          → pointwise nat_eq name e.0 ≡ b
          → cond (pointwise nat_eq name e.0) (Some e.1) (lookup (pointwise nat_eq name) es) ≡ Some v
      behind name v at true same =
          absurd (none_some (sym (not_before nat_list_eq_equiv e.0 name same es distinct.0) ∙ at))
      behind name v at false other =
          ap (λ b. cond b (Some e.1) (lookup (pointwise nat_eq name) es)) other ∙ at

low_cookies : (low : ℕ) (es : List (List ℕ × (ℕ × ℕ))) (high : ℕ) → IsRising low es high
    → AllByRecursion (λ e. e.1.1 < high) es
low_cookies low [] high h = tt
low_cookies low (e ∷ es) high h =
    (omega (arith, at_most (e.1.1 + 1) es high h.1), low_cookies (e.1.1 + 1) es high h.1)
  where
    at_most : (low : ℕ) (es : List (List ℕ × (ℕ × ℕ))) (high : ℕ) → IsRising low es high → low ≤ high
    at_most low [] high h = h
    at_most low (e ∷ es) high h = omega (arith, h.0, at_most (e.1.1 + 1) es high h.1)

-- an entry of a page fits
pub record EntryFits (e : PageEntry) : Type 0 where
  -- its number is a word
  pub fileid : e.fileid < 2 ^ 32
  -- its name has at most MAXNAMLEN bytes
  pub name : length e.name ≤ 255
  -- its cookie is a word
  pub cookie : e.cookie < 2 ^ 32

listed_fit : (es : List (List ℕ × (ℕ × ℕ))) → AllByRecursion (λ e. (e.1.0 < 2 ^ 32) × (length e.0 ≤ 255)) es
    → AllByRecursion (λ e. e.1.1 < 2 ^ 32) es
    → AllByRecursion EntryFits
    (map (λ (e : List ℕ × (ℕ × ℕ)). record { fileid = e.1.0; name = e.0; cookie = e.1.1 }) es)
listed_fit [] a b = tt
listed_fit (e ∷ es) a b = (record { fileid = a.0.0; name = a.0.1; cookie = b.0 }, listed_fit es a.1 b.1)

weaker : (es : List (List ℕ × (ℕ × ℕ))) (high : ℕ) → high ≤ 4294967295 → AllByRecursion (λ e. e.1.1 < high) es
    → AllByRecursion (λ e. e.1.1 < 2 ^ 32) es
weaker [] high le a = tt
weaker (e ∷ es) high le a = (omega (arith, le, a.0), weaker es high le a.1)

all_front : (P : PageEntry → Type 0) (count : ℕ) (es : List PageEntry) → AllByRecursion P es
    → AllByRecursion P (longest_front count es)
all_front P count [] a = tt
all_front P count (e ∷ es) a =
    elim (nat_le (cost e) count) as (λ b. AllByRecursion P
    (cond b (e ∷ longest_front (count - cost e) es) [])) [
      | true ↦ (a.0, all_front P (count - cost e) es a.1)
      | false ↦ tt
    ]

all_above : (P : PageEntry → Type 0) (test : PageEntry → Bool) (es : List PageEntry) → AllByRecursion P es
    → AllByRecursion P (filter test es)
all_above P test [] a = tt
all_above P test (e ∷ es) a =
    elim (test e) as (λ b. AllByRecursion P (cond b (e ∷ filter test es) (filter test es))) [
      | true ↦ (a.0, all_above P test es a.1)
      | false ↦ all_above P test es a.1
    ]

-- each entry of a page fits
pub page_fits : (w : Files) → AreSpelled w → (dir : ℕ) (f : File) (l : Listing) → file_at w dir ≡ Some f
    → is_directory f.body ≡ true → listing_in f.body ≡ l → (cookie count : ℕ)
    → AllByRecursion EntryFits (page_of cookie count (dir_entries w dir l)).entries
unfolding AllCookies
page_fits w h dir f l there is own cookie count =
    all_front EntryFits (min count 8192) _
    (all_above EntryFits (λ e. nat_lt cookie e.cookie) (dir_entries w dir l) (
      record { fileid = number_fits w h dir (ap is_some there); name = omega arith; cookie = omega arith },
      (
        record {
          fileid =
              number_fits w h (parent_of w dir)
              (parent_there w h.tree dir
              (ap (option_map (λ f. is_directory f.body)) there ∙ ap (λ b. Some b) is));
          name =
              omega arith;
          cookie = omega arith;
        },
        listed_fit l.entries
            (all_entries (λ name v. (v.0 < 2 ^ 32) × (length name ≤ 255)) l.entries body.1 (λ name v at.
            let its_entry : directory_entries w dir name ≡ Some v =
            ap (option_and_then (λ f. entry_at (listing_in f.body) name)) there
            ∙ ap (λ l. entry_at l name) own ∙ at in (
              number_fits w h v.0 (h.tree.tree.named dir name v.0 v.1 its_entry),
              (h.tree.names dir name (ap is_some its_entry)).1,
            )))
            (weaker l.entries l.next
            (let same = ap (λ (l : Listing). l.next) own in
            omega (arith, same, h.room.cookies dir f there)) (low_cookies 3 l.entries l.next body.0)),
      ),
    ))
  where
    in_body : (b : Body) → is_directory b ≡ true → IsBody b
        → IsRising 3 (listing_in b).entries (listing_in b).next × HasDistinctNames (listing_in b).entries
    in_body (Regular bytes) is h = absurd cc
    in_body (Symlink target) is h = absurd cc
    in_body (Directory l) is h = h

    body : IsRising 3 l.entries l.next × HasDistinctNames l.entries
    body = subst (λ (l : Listing). IsRising 3 l.entries l.next × HasDistinctNames l.entries) own
        (in_body f.body is (h.tree.files dir f there).body)
