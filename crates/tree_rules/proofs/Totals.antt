-- What files in a list take in all, one file more.
-- Serves: `total_usage`.
use Rattle.std.proofs.Common.{◌≡◌, ⊎_elim, ◌⊎◌, ℕ, ◌+◌, ◌<◌, ◌≤◌, ◌^◌, Bool, true, false, List, length, take}
use Rattle.std.proofs.Common.{get_or, sum_by, refl, sym, ap, subst, ◌∙◌, arith}
use Rattle.std.specs.List.{All}
use Rattle.std.specs.FinMap as finite
use Rattle.std.proofs.lemmas.List.{take_all}
use Rattle.std.proofs.lemmas.List.Elements.{All-more, All-nil}
use Rattle.std.proofs.lemmas.List.Sums.{sum_by_more, sum_by_more_le}
use Rattle.std.proofs.lemmas.Option.{slice_get_within, get_or_from_slice_get}
use Rattle.nfs_laws.specs.fs_spec.Files.{File, Files, listing_in}
use Rattle.nfs_laws.proofs.fs_spec.Counts.{sum_by_second}
use Rattle.nfs_laws.specs.fs_spec.Changes.Limits.{block_count, blocks_in, entry_count, has_room}
use Rattle.nfs_laws.proofs.fs_spec.OfChanges.Room.{AllCookies, IsWithin, within, room}
use Rattle.tree_rules.specs.FileRules.Rules.{AreRising, IsAt, files_listed, numbers_of}
use Rattle.tree_rules.proofs.OfFileRules.Listed.{count_listed, entries_listed, holds_at, place_of_file}
use Rattle.tree_rules.specs.Listed.{entries_among, blocks_among}

-- where a limit is passed there is no room
pub no_room : (w : Files) → (IsWithin w → ⊥) → has_room w ≡ false
no_room w not = by (has_room w) refl
  where
    by : (b : Bool) → has_room w ≡ b → has_room w ≡ false
    by false is = is
    by true is = absurd (not (within w is))

-- what the first files take, which is within the limits
pub record IsUsage (count : ℕ) (es : List (ℕ × File)) (entries blocks : ℕ) : Type 0 where
  -- the entries of the first files
  pub entries_are : entries ≡ entries_among (take count es)
  -- their blocks
  pub blocks_are : blocks ≡ blocks_among (take count es)
  -- no more entries than a server may have
  pub few_entries : entries ≤ 16384
  -- no more blocks either
  pub few_blocks : blocks ≤ 32768
  -- each next cookie is within the numbers of a cookie
  pub cookies : All (λ (e : ℕ × File). (listing_in e.1.body).next < 2 ^ 32) (take count es)

-- no files take nothing
pub usage_none : (es : List (ℕ × File)) → IsUsage 0 es 0 0
usage_none es = record {
  entries_are = refl;
  blocks_are = refl;
  few_entries = omega arith;
  few_blocks = omega arith;
  cookies = All-nil (λ (e : ℕ × File). (listing_in e.1.body).next < 2 ^ 32);
}

module _ (i : ℕ) (es : List (ℕ × File)) (n : ℕ) (f : File) (at : IsAt es i n f) where
  inside : i < length es
  inside = slice_get_within es i (n, f) at

  is : get_or es i (n, f) ≡ (n, f)
  is = get_or_from_slice_get es i (n, f) (n, f) at

  -- one file more
  pub usage_more : (entries blocks entries' blocks' : ℕ) → IsUsage i es entries blocks
      → entries' ≡ entries + length (listing_in f.body).entries → blocks' ≡ blocks + blocks_in f.body
      → entries' ≤ 16384 → blocks' ≤ 32768 → (listing_in f.body).next < 2 ^ 32
      → IsUsage (i + 1) es entries' blocks'
  usage_more entries blocks entries' blocks' old e b few_e few_b cookie = record {
    entries_are =
        let more = sum_by_more (λ (e : ℕ × File). length (listing_in e.1.body).entries) es i (n, f) inside in
        omega (
          arith,
          e,
          old.entries_are,
          more,
          ap (λ (x : ℕ × File). length (listing_in x.1.body).entries) is,
        );
    blocks_are = let more = sum_by_more (λ (e : ℕ × File). blocks_in e.1.body) es i (n, f) inside in
        omega (arith, b, old.blocks_are, more, ap (λ (x : ℕ × File). blocks_in x.1.body) is);
    few_entries = few_e;
    few_blocks = few_b;
    cookies = All-more (λ (e : ℕ × File). (listing_in e.1.body).next < 2 ^ 32) es i (n, f) inside old.cookies
        (subst (λ (e : ℕ × File). (listing_in e.1.body).next < 2 ^ 32) (sym is) cookie);
  }

module _ (fsid next : ℕ) (es : List (ℕ × File)) (up : AreRising (numbers_of es)) where
  -- the counts of the definitions are sums over the list
  pub entries_counted : entry_count (files_listed fsid next es) ≡ entries_among es
  entries_counted =
      sum_by_second (λ (f : File). length (listing_in f.body).entries)
      (finite.entries (files_listed fsid next es).files)
      ∙ ap (sum_by (λ (e : ℕ × File). length (listing_in e.1.body).entries)) (entries_listed es up)

  -- the blocks of files are those of their list
  pub blocks_counted : block_count (files_listed fsid next es) ≡ blocks_among es
  blocks_counted =
      sum_by_second (λ (f : File). blocks_in f.body) (finite.entries (files_listed fsid next es).files)
      ∙ ap (sum_by (λ (e : ℕ × File). blocks_in e.1.body)) (entries_listed es up)

  -- too many files
  pub many_files : 8192 < length es → has_room (files_listed fsid next es) ≡ false
  many_files many =
      no_room (files_listed fsid next es) (λ w. absurd
      (omega (arith, many, w.files, count_listed fsid next es up)))

  -- a file that takes too much
  pub much_more : (i n : ℕ) (f : File) → IsAt es i n f → (entries blocks : ℕ) → IsUsage i es entries blocks
      → (16384 < entries + length (listing_in f.body).entries) ⊎ (32768 < blocks + blocks_in f.body)
      → has_room (files_listed fsid next es) ≡ false
  much_more i n f at entries blocks old much = no_room (files_listed fsid next es) (λ w. ⊎_elim
      (λ e.
      let most =
      sum_by_more_le (λ (e : ℕ × File). length (listing_in e.1.body).entries) es i (n, f)
      (inside i es n f at) in
      absurd (omega (
        arith,
        e,
        most,
        old.entries_are,
        ap (λ (x : ℕ × File). length (listing_in x.1.body).entries) (is i es n f at),
        w.entries,
        entries_counted,
      )))
      (λ b.
      let most = sum_by_more_le (λ (e : ℕ × File). blocks_in e.1.body) es i (n, f) (inside i es n f at) in
      absurd (omega (
        arith,
        b,
        most,
        old.blocks_are,
        ap (λ (x : ℕ × File). blocks_in x.1.body) (is i es n f at),
        w.blocks,
        blocks_counted,
      )))
      much)

  module _ (i entries blocks : ℕ) (ge : length es ≤ i) (usage : IsUsage i es entries blocks) where
    -- after the last file the entries are those of all
    pub entries_all : entries ≡ entries_among es
    entries_all = usage.entries_are ∙ ap entries_among (take_all i es ge)

    -- after the last file the blocks are those of all
    pub blocks_all : blocks ≡ blocks_among es
    blocks_all = usage.blocks_are ∙ ap blocks_among (take_all i es ge)

    cookies_all : AllCookies (files_listed fsid next es)
    unfolding AllCookies
    cookies_all n f there =
        let p = place_of_file fsid next es up n f there in
        let below = holds_at es (λ (e : ℕ × File). (listing_in e.1.body).next < 2 ^ 32)
        (subst (All (λ (e : ℕ × File). (listing_in e.1.body).next < 2 ^ 32)) (take_all i es ge) usage.cookies)
        p.0 (n, f) p.1 in
        omega (arith, below)

    -- all files, within the limits
    pub has_room_for_all : length es ≤ 8192 → next < 2 ^ 32 → has_room (files_listed fsid next es) ≡ true
    has_room_for_all few low = room (files_listed fsid next es) (record {
      files = omega (arith, few, count_listed fsid next es up);
      entries = omega (arith, entries_counted, entries_all, usage.few_entries);
      blocks = omega (arith, blocks_counted, blocks_all, usage.few_blocks);
      next = omega (arith, low);
      cookies = cookies_all;
    })
