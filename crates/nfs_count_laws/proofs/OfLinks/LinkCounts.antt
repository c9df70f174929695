-- What the edits of files do to the nlink of each file.
-- Serves: edits_count_links; the laws of this crate.
use Rattle.std.proofs.Common.{◌≡◌, ◌≢◌, ⊎_elim, ℕ, ◌+◌, ◌<◌, Bool, true, false, cond, List, [], length}
use Rattle.std.proofs.Common.{sum_by, Option, Some, None, option_map, option_and_then, refl, sym, ap, ◌∙◌}
use Rattle.std.proofs.Common.{arith}
use Rattle.std.specs.Option.{option_map_or}
use Rattle.std.specs.Ordering.{nat_cmp, eq_by_cmp}
use Rattle.std.specs.FinMap as finite
use Rattle.std.proofs.lemmas.Bool.{cases_eq}
use Rattle.nfs_items.specs.Timeval.{Timeval}
use Rattle.nfs_laws.specs.fs_spec.Listing.{Listing, entry_at, with_entry, without_entry, HasDistinctNames}
use Rattle.nfs_laws.specs.fs_spec.Files.{Body, Regular, Symlink, Directory, File, Files, file_at, listing_in}
use Rattle.nfs_laws.specs.fs_spec.Files.{listing, is_directory, directory_entries, one_if, names_in}
use Rattle.nfs_laws.specs.fs_spec.Files.{names_of}
use Rattle.nfs_laws.proofs.fs_spec.Walks.{none_some, some_same}
use Rattle.nfs_laws.proofs.fs_spec.Counts.{count_of_one, file_in, all_names}
use Rattle.nfs_laws.specs.fs_spec.Changes.Edits.{with_new_file, with_changed_file, without_file}
use Rattle.nfs_laws.specs.fs_spec.Changes.Edits.{map_body_listing, map_listing, with_name, without_name}
use Rattle.nfs_laws.specs.fs_spec.Changes.Limits.{blocks_in, entry_count, block_count}
use Rattle.nfs_laws.proofs.fs_spec.OfChanges.Finite.{new_here, new_other, nothing_changes, changed_here}
use Rattle.nfs_laws.proofs.fs_spec.OfChanges.Finite.{changed_other, gone_other, total_new, total_changed}
use Rattle.nfs_laws.proofs.fs_spec.OfChanges.Finite.{total_without}
use Rattle.nfs_laws.proofs.fs_spec.OfChanges.Listings.{one, leads, one_same, one_other}
use Rattle.nfs_laws.proofs.fs_spec.OfChanges.Shapes.{kind, same_shape, new_shape, gone_shape, named_shape}
use Rattle.nfs_laws.proofs.fs_spec.OfChanges.Shapes.{unnamed_shape}
use Rattle.nfs_laws.specs.nfs_spec.FileAttributes.{is_directory_at, nlink_of}
use Rattle.nfs_laws.specs.nfs_spec.Changes.{touch, with_mtime, touch_ctime, with_ctime}
use Rattle.nfs_count_laws.specs.Links.Links.{link_count}
use Rattle.nfs_count_laws.proofs.OfLinks.ListingCounts.{sum_in, counts_at, sum_with, sum_without, sum_of_ones}
use Rattle.nfs_count_laws.proofs.OfLinks.ListingCounts.{directory_one, same_directories}

-- by the kind of what is there
by_kind : Option Bool → ℕ → ℕ → ℕ
by_kind None directory plain = 0
by_kind (Some true) directory plain = directory
by_kind (Some false) directory plain = plain

directories_in : Files → ℕ → ℕ
directories_in w n = sum_in (directory_one w) (listing w n).entries

links_by_kind : (w : Files) (n : ℕ)
    → link_count w n ≡ by_kind (kind w n) (2 + directories_in w n) (names_of w n)
unfolding by_kind directories_in
links_by_kind w n = by (file_at w n)
  where
    of_body : (b : Body) → nlink_of w n b ≡ by_kind (Some (is_directory b))
        (2 + sum_in (directory_one w) (listing_in b).entries) (names_of w n)
    of_body (Regular bytes) = refl
    of_body (Symlink target) = refl
    of_body (Directory l) = refl

    by : (o : Option File) → option_map_or (λ f. nlink_of w n f.body) o 0
        ≡ by_kind (option_map (λ f. is_directory f.body) o)
        (2 + sum_in (directory_one w)
        (option_map_or (λ f. listing_in f.body) o (record { next = 0; entries = [] })).entries)
        (names_of w n)
    by None = refl
    by (Some f) = of_body f.body

-- the same kind, names and subdirectories are the same nlink
same_links : (w w' : Files) (n : ℕ) → kind w' n ≡ kind w n → directories_in w' n ≡ directories_in w n
    → names_of w' n ≡ names_of w n → link_count w' n ≡ link_count w n
same_links w w' n kinds directories names =
    links_by_kind w' n ∙ (λ i. by_kind (kinds i) (2 + directories i) (names i)) ∙ sym (links_by_kind w n)

kind_at : (w w' : Files) (n : ℕ) → kind w' n ≡ kind w n → is_directory_at w' n ≡ is_directory_at w n
kind_at w w' n same = at w' ∙ ap (λ o. option_map_or (λ b. b) o false) same ∙ sym (at w)
  where
    by : (o : Option File) → option_map_or (λ f. is_directory f.body) o false
        ≡ option_map_or (λ b. b) (option_map (λ f. is_directory f.body) o) false
    by None = refl
    by (Some f) = refl

    at : (v : Files) → is_directory_at v n ≡ option_map_or (λ b. b) (kind v n) false
    at v = by (file_at v n)

-- ---- contents

-- a change that keeps what a file lists and its kind keeps each nlink, and the number of entries
module _ (w : Files) (k : ℕ) (change : File → File)
    (lists : (f : File) → file_at w k ≡ Some f → listing_in (change f).body ≡ listing_in f.body)
    (keeps : (f : File) → file_at w k ≡ Some f → is_directory (change f).body ≡ is_directory f.body) where
  list_of : Option File → Listing
  list_of o = option_map_or (λ f. listing_in f.body) o (record { next = 0; entries = [] })

  changed_listing : (n : ℕ) → listing (with_changed_file w k change) n ≡ listing w n
  unfolding list_of
  changed_listing n = ⊎_elim
      (λ e. ap list_of (changed_here w k change n e) ∙ by (file_at w k) refl ∙ sym (ap (λ m. listing w m) e))
      (λ ne. ap list_of (changed_other w k change n ne))
      (cases_eq n k)
    where
      by : (o : Option File) → file_at w k ≡ o → list_of (option_map change o) ≡ list_of (file_at w k)
      by None is = sym (ap list_of is)
      by (Some f) is = lists f is ∙ sym (ap list_of is)

  -- a change of one file that keeps its listing and kind leaves each nlink
  pub changed_links : (n : ℕ) → link_count (with_changed_file w k change) n ≡ link_count w n
  unfolding directories_in
  changed_links n =
      let s = same_shape w k change lists keeps in
      let after = with_changed_file w k change in
      same_links w after n (s.kinds n)
      (ap (λ (l : Listing). sum_in (directory_one after) l.entries) (changed_listing n)
      ∙ same_directories w after (listing w n).entries (λ m _. kind_at w after m (s.kinds m)))
      (s.names n)

  -- and as many entries of all directories
  pub changed_entries : entry_count (with_changed_file w k change) ≡ entry_count w
  changed_entries = by (file_at w k) refl
    where
      by : (o : Option File) → file_at w k ≡ o → entry_count (with_changed_file w k change) ≡ entry_count w
      by None is = ap entry_count (nothing_changes w k change 0 is)
      by (Some f) is =
          let same = ap (λ (l : Listing). length l.entries) (lists f is) in
          omega (arith, total_changed (λ g. length (listing_in g.body).entries) w k change f is, same)

-- other times, with what that leaves
pub record CountsAlike (w w' : Files) : Type 0 where
  -- each number's nlink
  pub links : (n : ℕ) → link_count w' n ≡ link_count w n
  -- the entries of all directories
  pub entries : entry_count w' ≡ entry_count w
  -- the blocks of all files
  pub blocks : block_count w' ≡ block_count w

stamped_alike : (w : Files) (k : ℕ) (change : File → File) → ((f : File) → (change f).body ≡ f.body)
    → CountsAlike w (with_changed_file w k change)
stamped_alike w k change body = record {
  links = changed_links w k change (λ f _. ap listing_in (body f)) (λ f _. ap is_directory (body f));
  entries = changed_entries w k change (λ f _. ap listing_in (body f)) (λ f _. ap is_directory (body f));
  blocks = by (file_at w k) refl;
}
  where
    by : (o : Option File) → file_at w k ≡ o → block_count (with_changed_file w k change) ≡ block_count w
    by None is = ap block_count (nothing_changes w k change 0 is)
    by (Some f) is = let same = ap blocks_in (body f) in
        omega (arith, total_changed (λ g. blocks_in g.body) w k change f is, same)

-- times
pub touched_alike : (now : Timeval) (w : Files) (d : ℕ) → CountsAlike w (touch now w d)
touched_alike now w d = stamped_alike w d (with_mtime now) (λ f. refl)

-- ctime alone
pub marked_alike : (now : Timeval) (w : Files) (d : ℕ) → CountsAlike w (touch_ctime now w d)
marked_alike now w d = stamped_alike w d (with_ctime now) (λ f. refl)

-- ---- an entry more

-- files with one entry more than others, of a number that is a directory's or not
pub record HasEntryMore (w w' : Files) (d k : ℕ) (directory : Bool) : Type 0 where
  -- the entry stands in a directory
  pub dir : kind w d ≡ Some true
  -- its number is there, a directory or not as said
  pub named : kind w k ≡ Some directory
  -- all numbers keep their kinds
  pub kinds : (n : ℕ) → kind w' n ≡ kind w n
  -- the number has one name more, all others as many as before
  pub names : (n : ℕ) → names_of w' n ≡ names_of w n + one n k
  -- the directory lists one subdirectory more if the number is a directory's, else as many as before
  pub own : sum_in (directory_one w) (listing w' d).entries
      ≡ sum_in (directory_one w) (listing w d).entries + cond directory 1 0
  -- other directories list what they listed
  pub others : (n : ℕ) → n ≢ d → listing w' n ≡ listing w n
  -- one entry more of all directories
  pub entries : entry_count w' ≡ entry_count w + 1
  -- as many blocks of all files
  pub blocks : block_count w' ≡ block_count w

true_false : ◌≡◌ {A = Option Bool} (Some true) (Some false) → ⊥
true_false h = cc

module _ (w w' : Files) (d k : ℕ) (directory : Bool) (m : HasEntryMore w w' d k directory) where
  directories_more : (n : ℕ) → directories_in w' n ≡ directories_in w n + cond directory (one n d) 0
  unfolding directories_in
  directories_more n =
      let same = same_directories w w' (listing w' n).entries (λ i _. kind_at w w' i (m.kinds i)) in
      ⊎_elim
      (λ e.
      let here = same ∙ ap (λ i. sum_in (directory_one w) (listing w' i).entries) e in
      let own = ap (λ i. sum_in (directory_one w) (listing w i).entries) e in
      let counted : cond directory (one n d) 0 ≡ cond directory 1 0 =
      ap (λ i. cond directory i 0) (one_same n d e) in
      omega (arith, here, own, m.own, counted))
      (λ ne.
      let there = same ∙ ap (λ (l : Listing). sum_in (directory_one w) l.entries) (m.others n ne) in
      let none : cond directory (one n d) 0 ≡ 0 = ap (λ i. cond directory i 0) (one_other n d ne)
      ∙ both_zero directory in
      omega (arith, there, none))
      (cases_eq n d)
    where
      both_zero : (b : Bool) → ◌≡◌ {A = ℕ} (cond b 0 0) 0
      both_zero true = refl
      both_zero false = refl

  -- the number whose nlink counts it: a directory counts in the one that names it
  holder_kind : (b : Bool) → directory ≡ b → kind w (cond b d k) ≡ Some b
  holder_kind true e = m.dir
  holder_kind false e = m.named ∙ ap (λ b. Some b) e

  apart : (n i : ℕ) (o p : Option Bool) → kind w n ≡ o → kind w i ≡ p → (o ≡ p → ⊥) → n ≢ i
  apart n i o p h g not e = not (sym h ∙ ap (kind w) e ∙ g)

  -- the entry counts in the nlink of its file, or, if that is a directory, of the one that names it
  pub more_links : (n : ℕ) → link_count w' n ≡ link_count w n + one n (cond directory d k)
  unfolding by_kind
  more_links n =
      links_by_kind w' n ∙ ap (λ o. by_kind o (2 + directories_in w' n) (names_of w' n)) (m.kinds n)
      ∙ by (kind w n) directory refl refl ∙ ap (λ a. a + one n (cond directory d k)) (sym (links_by_kind w n))
    where
      by : (o : Option Bool) (b : Bool) → kind w n ≡ o → directory ≡ b
          → by_kind o (2 + directories_in w' n) (names_of w' n)
          ≡ by_kind o (2 + directories_in w n) (names_of w n) + one n (cond b d k)
      by None b is e = let zero =
          one_other n (cond b d k) (apart n (cond b d k) None (Some b) is (holder_kind b e) none_some) in
          omega (arith, zero)
      by (Some true) true is e = let more =
          directories_more n ∙ ap (λ b. directories_in w n + cond b (one n d) 0) e in omega (arith, more)
      by (Some true) false is e =
          let more = directories_more n ∙ ap (λ b. directories_in w n + cond b (one n d) 0) e in
          let zero = one_other n k (apart n k (Some true) (Some false) is (holder_kind false e) true_false) in
          omega (arith, more, zero)
      by (Some false) true is e =
          let own = one_other n k (apart n k (Some false) (Some true) is (m.named ∙ ap (λ b. Some b) e)
          (λ h. true_false (sym h))) in
          let zero = one_other n d (apart n d (Some false) (Some true) is m.dir (λ h. true_false (sym h))) in
          omega (arith, m.names n, own, zero)
      by (Some false) false is e = m.names n

relisted_blocks : (change : Listing → Listing) (b : Body)
    → blocks_in (map_body_listing change b) ≡ blocks_in b
relisted_blocks change (Regular bytes) = refl
relisted_blocks change (Symlink target) = refl
relisted_blocks change (Directory l) = refl

relisted_body : (change : Listing → Listing) (b : Body) → is_directory b ≡ true
    → listing_in (map_body_listing change b) ≡ change (listing_in b)
relisted_body change (Regular bytes) is = cc
relisted_body change (Symlink target) is = cc
relisted_body change (Directory l) is = refl

module _ (w : Files) (d k : ℕ) (x : List ℕ) (directory : Bool) (f : File) (there : file_at w d ≡ Some f)
    (is : is_directory f.body ≡ true) (distinct : HasDistinctNames (listing_in f.body).entries)
    (named : kind w k ≡ Some directory) where
  list_in : Option File → Listing
  list_in o = option_map_or (λ f. listing_in f.body) o (record { next = 0; entries = [] })

  abbrev relist : (Listing → Listing) → Files
  relist change = with_changed_file w d (map_listing change)

  listed : listing w d ≡ listing_in f.body
  unfolding list_in
  listed = ap list_in there

  relisted : (change : Listing → Listing) → listing (relist change) d ≡ change (listing_in f.body)
  unfolding list_in
  relisted change =
      ap list_in (changed_here w d (map_listing change) d refl ∙ ap (option_map (map_listing change)) there)
      ∙ relisted_body change f.body is

  others_listed : (change : Listing → Listing) (n : ℕ) → n ≢ d → listing (relist change) n ≡ listing w n
  unfolding list_in
  others_listed change n ne = ap list_in (changed_other w d (map_listing change) n ne)

  relisted_count : (change : Listing → Listing)
      → entry_count (relist change) + length (listing_in f.body).entries
      ≡ entry_count w + length (change (listing_in f.body)).entries
  relisted_count change =
      let own = ap (λ (l : Listing). length l.entries) (relisted_body change f.body is) in
      omega (
        arith,
        own,
        total_changed (λ g. length (listing_in g.body).entries) w d
            (map_listing change) f there,
      )

  relisted_blocks_count : (change : Listing → Listing) → block_count (relist change) ≡ block_count w
  relisted_blocks_count change =
      omega (
        arith,
        relisted_blocks change f.body,
        total_changed (λ g. blocks_in g.body) w d (map_listing change) f there,
      )

  entries_at : directory_entries w d x ≡ entry_at (listing_in f.body) x
  entries_at = ap (option_and_then (λ f. entry_at (listing_in f.body) x)) there

  counted : (v : Files) → kind v k ≡ kind w k → directory_one v k ≡ cond directory 1 0
  counted v same = ap (λ b. cond b 1 0) (at (file_at v k) (same ∙ named))
    where
      at : (o : Option File) → option_map (λ f. is_directory f.body) o ≡ Some directory
          → option_map_or (λ f. is_directory f.body) o false ≡ directory
      at None h = absurd (none_some h)
      at (Some f) h = some_same h

  -- a name more is an entry more
  pub named_more : directory_entries w d x ≡ None → HasEntryMore w (with_name w d x k) d k directory
  named_more free =
      let shape = named_shape w d x f there is distinct k in
      let l = listing_in f.body in
      let change = λ (l : Listing). with_entry l x k in
      let none : entry_at l x ≡ None = sym entries_at ∙ free in
      record {
        dir = ap (option_map (λ f. is_directory f.body)) there ∙ ap (λ b. Some b) is;
        named = named;
        kinds = shape.kinds;
        names = λ n. let zero = ap (leads n) free in omega (arith, shape.names n, zero);
        own =
            let after = ap (λ (l : Listing). sum_in (directory_one w) l.entries) (relisted change) in
            let before = ap (λ (l : Listing). sum_in (directory_one w) l.entries) listed in
            let zero = ap (counts_at (directory_one w)) none in
            omega (arith, after, before, zero, sum_with (directory_one w) l x k, counted w refl);
        others = others_listed change;
        entries =
            let zero = ap (counts_at (λ _. 1)) none in
            omega (
              arith,
              relisted_count change,
              sum_with (λ _. 1) l x k,
              zero,
              sum_of_ones l.entries,
              sum_of_ones (with_entry l x k).entries,
            );
        blocks = relisted_blocks_count change;
      }

  -- a name less is an entry less
  pub unnamed_less : (cookie : ℕ) → directory_entries w d x ≡ Some (k, cookie)
      → HasEntryMore (without_name w d x) w d k directory
  unnamed_less cookie had =
      let shape = unnamed_shape w d x f there is distinct in
      let l = listing_in f.body in
      let change = λ (l : Listing). without_entry l x in
      let left = without_name w d x in
      let found : entry_at l x ≡ Some (k, cookie) = sym entries_at ∙ had in
      record {
        dir = shape.kinds d ∙ ap (option_map (λ f. is_directory f.body)) there ∙ ap (λ b. Some b) is;
        named = shape.kinds k ∙ named;
        kinds = λ n. sym (shape.kinds n);
        names = λ n. let own = ap (leads n) had in omega (arith, shape.names n, own);
        own =
            let after = ap (λ (l : Listing). sum_in (directory_one left) l.entries) (relisted change) in
            let before = ap (λ (l : Listing). sum_in (directory_one left) l.entries) listed in
            let one = ap (counts_at (directory_one left)) found in
            omega (
              arith,
              after,
              before,
              one,
              sum_without (directory_one left) l x,
              counted left (shape.kinds k),
            );
        others = λ n ne. sym (others_listed change n ne);
        entries =
            let one = ap (counts_at (λ _. 1)) found in
            omega (
              arith,
              relisted_count change,
              sum_without (λ _. 1) l x,
              one,
              sum_of_ones l.entries,
              sum_of_ones (without_entry l x).entries,
            );
        blocks = sym (relisted_blocks_count change);
      }

-- ---- a file more, and a file less

named_by : (w : Files) (n m : ℕ) → 0 < sum_by (one_if m) (listing w n).entries → 0 < names_of w m
named_by w n m some = by (file_at w n) refl
  where
    by : (o : Option File) → file_at w n ≡ o → 0 < names_of w m
    by None e =
        let none = ap (λ o. sum_by (one_if m) (option_map_or (λ f. listing_in f.body) o
        (record { next = 0; entries = [] })).entries) e in
        absurd (omega (arith, none, some))
    by (Some f) e =
        let own = ap (λ o. sum_by (one_if m) (option_map_or (λ f. listing_in f.body) o
        (record { next = 0; entries = [] })).entries) e in
        let outer = count_of_one (names_in m) (eq_by_cmp nat_cmp n) (finite.entries w.files) f
        (file_in w n f e) in
        omega (arith, own, outer, all_names w m, some)

-- where a number that has no name gets a file or loses it, the others keep their nlink
others_keep : (w w' : Files) (k : ℕ) → names_of w k ≡ 0 → ((n : ℕ) → names_of w' n ≡ names_of w n)
    → ((n : ℕ) → n ≢ k → file_at w' n ≡ file_at w n) → (n : ℕ) → n ≢ k → link_count w' n ≡ link_count w n
unfolding directories_in
others_keep w w' k none names others n ne =
    let list_of = λ (o : Option File). option_map_or (λ f. listing_in f.body) o
    (record { next = 0; entries = [] }) in
    let kinds = λ (m : ℕ) (not : m ≢ k). ap (option_map (λ (f : File). is_directory f.body)) (others m not) in
    same_links w w' n (kinds n ne)
    (ap (λ o. sum_in (directory_one w') (list_of o).entries) (others n ne)
    ∙ same_directories w w' (listing w n).entries
    (λ m some. kind_at w w' m
    (kinds m (λ e. let zero = ap (names_of w) e in absurd (omega (arith, named_by w n m some, zero, none))))))
    (names n)

module _ (w : Files) (f : File) (free : file_at w w.next ≡ None) (unnamed : names_of w w.next ≡ 0)
    (empty : (listing_in f.body).entries ≡ []) where
  -- a new file without names leaves the others
  pub new_others : (n : ℕ) → n ≢ w.next → link_count (with_new_file w f) n ≡ link_count w n
  new_others =
      others_keep w (with_new_file w f) w.next unnamed (new_shape w f free empty).names (new_other w f)

  -- a directory has two links from the start
  pub new_own : link_count (with_new_file w f) w.next ≡ cond (is_directory f.body) 2 0
  unfolding by_kind directories_in
  new_own =
      let shape = new_shape w f free empty in
      let v = with_new_file w f in
      let none : directories_in v w.next ≡ 0 =
      ap (λ o. sum_in (directory_one v)
      (option_map_or (λ (f : File). listing_in f.body) o (record { next = 0; entries = [] })).entries)
      (new_here w f w.next refl)
      ∙ ap (sum_in (directory_one v)) empty in
      links_by_kind v w.next ∙ (λ i. by_kind (shape.new i) (2 + none i) ((shape.names w.next ∙ unnamed) i))
      ∙ by (is_directory f.body)
    where
      by : (b : Bool) → by_kind (Some b) (2 + 0) 0 ≡ cond b 2 0
      by true = refl
      by false = refl

  -- a new file that lists nothing brings no entry
  pub new_entries : entry_count (with_new_file w f) ≡ entry_count w
  new_entries = let none = ap length empty in
      omega (arith, total_new (λ g. length (listing_in g.body).entries) w f free, none)

  -- and the blocks of its own
  pub new_blocks : block_count (with_new_file w f) ≡ block_count w + blocks_in f.body
  new_blocks = total_new (λ g. blocks_in g.body) w f free

module _ (w : Files) (k : ℕ) (f : File) (there : file_at w k ≡ Some f) (unnamed : names_of w k ≡ 0)
    (empty : (listing_in f.body).entries ≡ []) where
  -- a file that goes without names leaves the others
  pub gone_others : (n : ℕ) → n ≢ k → link_count (without_file w k) n ≡ link_count w n
  gone_others =
      others_keep w (without_file w k) k unnamed (gone_shape w k f there empty).names (gone_other w k)

  -- no entry goes with it
  pub gone_entries : entry_count (without_file w k) ≡ entry_count w
  gone_entries = let none = ap length empty in
      omega (arith, total_without (λ g. length (listing_in g.body).entries) w k f there, none)

  -- and its blocks are free
  pub gone_blocks : block_count (without_file w k) + blocks_in f.body ≡ block_count w
  gone_blocks = total_without (λ g. blocks_in g.body) w k f there

-- the nlink of what is no directory
pub plain_links : (w : Files) (n : ℕ) (f : File) → file_at w n ≡ Some f → is_directory f.body ≡ false
    → link_count w n ≡ names_of w n
unfolding by_kind
plain_links w n f there plain =
    links_by_kind w n ∙ ap (λ o. by_kind (option_map (λ f. is_directory f.body) o) (2 + directories_in w n)
    (names_of w n)) there
    ∙ ap (λ b. by_kind (Some b) (2 + directories_in w n) (names_of w n)) plain
