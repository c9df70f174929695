-- What edits take of the limits: times and names less take nothing; a name more takes one entry and one
-- cookie.
-- Serves: room_is_told_before; no_limit_is_passed.
use Rattle.std.proofs.Common.{◌≡◌, ⊎_elim, ℕ, eqb, ◌+◌, ◌≤◌, Bool, true, false, cond, List, [], ◌∷◌, length}
use Rattle.std.proofs.Common.{Some, None, nat_eq, option_map, option_and_then, refl, sym, ap, ◌∙◌, arith}
use Rattle.std.specs.Map.{lookup, remove_entry}
use Rattle.std.specs.Cmp.Lexicographic.{pointwise}
use Rattle.std.proofs.lemmas.Bool.{cases_eq}
use Rattle.std.proofs.lemmas.List.{length-append}
use Rattle.nfs_spec.specs.nfs_items.Timeval.{Timeval}
use Rattle.nfs_spec.specs.fs_spec.Listing.{entry_at, with_entry}
use Rattle.nfs_spec.specs.fs_spec.Files.{Body, Regular, Symlink, Directory, File, Files, file_at, listing_in}
use Rattle.nfs_spec.specs.fs_spec.Files.{is_directory, directory_entries, names_of}
use Rattle.nfs_spec.proofs.fs_spec.Walks.{none_some, some_same}
use Rattle.nfs_spec.specs.fs_spec.Changes.Edits.{map_listing, map_body_listing, with_name, without_name}
use Rattle.nfs_spec.specs.fs_spec.Changes.Limits.{blocks_in, entry_count, file_count, block_count, has_room}
use Rattle.nfs_spec.proofs.fs_spec.OfChanges.Finite.{changed_next, changed_here, changed_other}
use Rattle.nfs_spec.proofs.fs_spec.OfChanges.Finite.{total_changed}
use Rattle.nfs_spec.proofs.fs_spec.OfChanges.Room.{count_changed, AllCookies, within, room, IsNoMore}
use Rattle.nfs_spec.proofs.fs_spec.OfChanges.Room.{no_more_then, changed_no_more, gone_no_more}
use Rattle.nfs_spec.proofs.fs_spec.OfChanges.Room.{unnamed_no_more, same_smaller}
use Rattle.nfs_spec.specs.Changes.{touch, with_mtime, touch_ctime, with_ctime, unlink, after_unlink}

-- ---- times, and a name less

-- times take nothing
pub touch_no_more : (now : Timeval) (w : Files) (n : ℕ) → IsNoMore w (touch now w n)
touch_no_more now w n = changed_no_more w n (with_mtime now) (λ f. same_smaller f (with_mtime now f) refl)

-- nor does ctime alone
pub mark_no_more : (now : Timeval) (w : Files) (n : ℕ) → IsNoMore w (touch_ctime now w n)
mark_no_more now w n = changed_no_more w n (with_ctime now) (λ f. same_smaller f (with_ctime now f) refl)

-- nor does a name less, whether the file goes with it or stays
pub unlink_no_more : (now : Timeval) (w : Files) (dir : ℕ) (name : List ℕ) (n : ℕ)
    → IsNoMore w (unlink now w dir name n)
unlink_no_more now w dir name n =
    no_more_then w less _ (unnamed_no_more w dir name) (by (eqb (names_of less n) 0))
  where
    less : Files
    less = without_name w dir name

    by : (b : Bool) → IsNoMore less (after_unlink b now less n)
    by true = gone_no_more less n
    by false = mark_no_more now less n

-- ---- a name more

-- a name that a directory doesn't have stands at no entry of it
pub free_in : (w : Files) (d : ℕ) (x : List ℕ) (f : File) → file_at w d ≡ Some f
    → directory_entries w d x ≡ None
    → entry_at (listing_in f.body) x ≡ None
free_in w d x f there free = sym (ap (option_and_then (λ f. entry_at (listing_in f.body) x)) there) ∙ free

length-same : (t : List ℕ → Bool) (es : List (List ℕ × (ℕ × ℕ))) → lookup t es ≡ None
    → length (remove_entry t es) ≡ length es
length-same t [] h = refl
length-same t (e ∷ es) h =
    elim (t e.0) as (λ b. cond b (Some e.1) (lookup t es) ≡ None
    → length (cond b es (e ∷ remove_entry t es)) ≡ length (e ∷ es)) [
      | true ↦ λ is. absurd (none_some (sym is))
      | false ↦ λ is. omega (arith, length-same t es is)
    ] h

put_entries : (x : List ℕ) (k : ℕ) (b : Body) → is_directory b ≡ true → entry_at (listing_in b) x ≡ None
    → length (listing_in (map_body_listing (λ l. with_entry l x k) b)).entries
    ≡ length (listing_in b).entries + 1
put_entries x k (Regular bytes) is free = absurd cc
put_entries x k (Symlink target) is free = absurd cc
put_entries x k (Directory l) is free =
    omega (
      arith,
      length-append (remove_entry (pointwise nat_eq x) l.entries) ((x, (k, l.next)) ∷ []),
      length-same (pointwise nat_eq x) l.entries free,
    )

put_next : (x : List ℕ) (k : ℕ) (b : Body) → is_directory b ≡ true
    → (listing_in (map_body_listing (λ l. with_entry l x k) b)).next ≡ (listing_in b).next + 1
put_next x k (Regular bytes) is = absurd cc
put_next x k (Symlink target) is = absurd cc
put_next x k (Directory l) is = refl

put_blocks : (x : List ℕ) (k : ℕ) (b : Body)
    → blocks_in (map_body_listing (λ l. with_entry l x k) b) ≡ blocks_in b
put_blocks x k (Regular bytes) = refl
put_blocks x k (Symlink target) = refl
put_blocks x k (Directory l) = refl

-- what a name more asks of the files, in a directory whose next cookie is this
pub record IsNamedWithin (w : Files) (next_cookie : ℕ) : Type 0 where
  -- no more files than may be
  pub files : file_count w ≤ 8192
  -- one entry less than may be
  pub entries : entry_count w + 1 ≤ 16384
  -- no more blocks than may be
  pub blocks : block_count w ≤ 32768
  -- no number above the last was given
  pub next : w.next ≤ 4294967295
  -- the directory's next cookie may be given
  pub cookie : next_cookie ≤ 4294967294

module _ (w : Files) (d : ℕ) (x : List ℕ) (k : ℕ) (f : File) (there : file_at w d ≡ Some f)
    (is : is_directory f.body ≡ true) (free : entry_at (listing_in f.body) x ≡ None) where
  abbrev put : File → File
  put = map_listing (λ l. with_entry l x k)

  -- within the limits after a name more, there was room for it
  pub named_needs : has_room (with_name w d x k) ≡ true → IsNamedWithin w (listing_in f.body).next
  unfolding AllCookies
  named_needs h =
      let was = within (with_name w d x k) h in
      let own = was.cookies d (put f) (changed_here w d put d refl ∙ ap (option_map put) there) in
      record {
        files = omega (arith, count_changed w d put, was.files);
        entries = omega (
          arith,
          total_changed (λ g. length (listing_in g.body).entries) w d put f there,
          put_entries x k f.body is free,
          was.entries,
        );
        blocks = omega (
          arith,
          total_changed (λ g. blocks_in g.body) w d put f there,
          put_blocks x k f.body,
          was.blocks,
        );
        next = omega (arith, changed_next w d put 0, was.next);
        cookie = omega (arith, own, put_next x k f.body is);
      }

  -- and where there was room, the limits are kept
  pub named_has : AllCookies w → IsNamedWithin w (listing_in f.body).next
      → has_room (with_name w d x k) ≡ true
  unfolding AllCookies
  named_has all h = room (with_name w d x k) (record {
    files = omega (arith, count_changed w d put, h.files);
    entries = omega (
      arith,
      total_changed (λ g. length (listing_in g.body).entries) w d put f there,
      put_entries x k f.body is free,
      h.entries,
    );
    blocks = omega (
      arith,
      total_changed (λ g. blocks_in g.body) w d put f there,
      put_blocks x k f.body,
      h.blocks,
    );
    next = omega (arith, changed_next w d put 0, h.next);
    cookies = λ n g at. ⊎_elim
        (λ e. let same = ap (λ (z : File). (listing_in z.body).next)
        (some_same (sym (changed_here w d put n e ∙ ap (option_map put) there) ∙ at)) in
        omega (arith, same, put_next x k f.body is, h.cookie))
        (λ ne. all n g (sym (changed_other w d put n ne) ∙ at))
        (cases_eq n d);
  })
