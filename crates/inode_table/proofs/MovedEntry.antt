-- An entry that moves is kept, by what each step of the move does.
-- Serves: `InodeTable::rename`.
use Rattle.std.proofs.Common.{◌≡◌, ◌≢◌, ⊎_elim, ℕ, ◌+◌, ◌-◌, ◌<◌, ◌≤◌, ◌^◌, Bool, true, false, cond, List, []}
use Rattle.std.proofs.Common.{Option, Some, None, option_map, option_and_then, nat_eq, refl, sym, ap, subst}
use Rattle.std.proofs.Common.{◌∙◌, arith}
use Rattle.std.specs.Option.{option_map_or}
use Rattle.std.specs.Map.{lookup}
use Rattle.std.specs.Cmp.Lexicographic.{pointwise}
use Rattle.std.proofs.lemmas.Bool.{cases_eq}
use Rattle.fs_spec.specs.nfs_items.Timeval.{Timeval}
use Rattle.fs_spec.specs.Listing.{Listing, entry_at, with_entry, without_entry}
use Rattle.fs_spec.specs.Files.{File, Files, listing_in, is_directory, directory_entries}
use Rattle.fs_spec.specs.Trees.{IsTime}
use Rattle.fs_spec.proofs.Walks.{none_some, some_same}
use Rattle.fs_spec.specs.Changes.Edits.{with_name, without_name, map_listing}
use Rattle.fs_spec.specs.Changes.Limits.{blocks_in}
use Rattle.fs_spec.proofs.OfChanges.Shapes.{kind, changed_kinds}
use Rattle.nfs_count_laws.specs.nfs_spec.Changes.{touch, touch_ctime, unlink, after_unlink, with_ctime}
use Rattle.nfs_count_laws.specs.nfs_spec.Changes.{with_mtime}
use Rattle.nfs_count_laws.specs.nfs_spec.Procedures.{unlink_target, move_entry}
use Rattle.nfs_count_laws.proofs.nfs_laws.OfTrees.FilesFit.{dir_file, distinct_names}
use Rattle.nfs_count_laws.specs.Counted.{IsKept}
use Rattle.nfs_count_laws.specs.CountChanges.{MayUnlink, MayMove, CountsCleared, CountsMoved, is_last_name}
use Rattle.nfs_count_laws.specs.CountChanges.{blocks_freed}
use Rattle.nfs_count_laws.proofs.Facts.{entries_bounded, links_positive, links_bounded, links_of_parent}
use Rattle.nfs_count_laws.proofs.Unlinking.{last_name_told}
use Rattle.nfs_count_laws.proofs.OfMoves.Moving.{kept_by_move}
use Rattle.tree_rules.specs.inodes.declared.inode.Inode.{Inode}
use Rattle.tree_rules.specs.inodes.Inodes.{body_in, file_in, files_of, inode_at, stored_at, links_at}
use Rattle.tree_rules.specs.inodes.Inodes.{above_at}
use Rattle.inode_table.specs.Edits.Moves.{DropsTarget, GainsLink, LosesName}
use Rattle.inode_table.specs.Edits.Slots.{ChangesFile, MayUnname, SetsParent, TakesEntry}
use Rattle.inode_table.proofs.OfEdits.EditedInodes.{other_stored}
use Rattle.tree_rules.proofs.inodes.FilesSeen.{file_seen}
use Rattle.inode_table.proofs.OfEdits.Listed.{relisted_kind, unlink_swap, unlinked_other, name_swap}
use Rattle.inode_table.proofs.OfEdits.Listed.{name_again}
use Rattle.inode_table.specs.declared.table.InodeTable.TheInside.{Inside}
use Rattle.inode_table.specs.Kept.{AreKept}
use Rattle.inode_table.proofs.KeptRemoval.{freed_most, may_unname, some_entry}
use Rattle.inode_table.proofs.Tables.{files_in, IsWhole, stored, kept_blocks}

-- the entry of a number that stands somewhere
entry_there : (p : Option (ℕ × ℕ)) (t : ℕ) → option_map (λ e. e.0) p ≡ Some t → (c : ℕ) × (p ≡ Some (t, c))
entry_there None t e = absurd (none_some e)
entry_there (Some p) t e = (p.1, ap (λ m. Some (m, p.1)) (some_same e))

-- a directory's links where it may lose one, of at least three
one_less : (b : Bool) (old new least : ℕ) → new + cond b 1 0 ≡ old → least ≤ old
    → (b ≡ true → least + 1 ≤ old) → least ≤ new
one_less true old new least e most more = let m = more refl in omega (arith, e, m)
one_less false old new least e most more = omega (arith, e, most)

module _ (table : Inside) (whole : IsWhole table) {w : Files} (view : files_in table ≡ w) (now : Timeval)
    {number from to cookie : ℕ} {from_name to_name : List ℕ} {f : File} {target : Option ℕ}
    (asked : MayMove w number from from_name to to_name f cookie target) where
  -- the number of its server
  abbrev pub fsid : ℕ
  fsid = table.fsid

  -- the next file number
  abbrev pub next : ℕ
  next = table.next

  -- its directory entries in all
  abbrev pub entries : ℕ
  entries = table.entries

  -- its blocks in all
  abbrev pub blocks : ℕ
  blocks = table.blocks

  -- its inodes by their numbers
  abbrev pub es : List (ℕ × Inode)
  es = table.inodes.entries

  -- the files that they are
  abbrev pub fs : Files
  fs = files_in table

  may : MayMove (files_in table) number from from_name to to_name f cookie target
  may = subst (λ v. MayMove v number from from_name to to_name f cookie target) (sym view) asked

  -- the directory has a cookie for one entry more
  pub put_room : (inode : Inode) → inode_at es to ≡ Some inode
      → (listing_in (body_in inode.body)).next < 4294967295
  put_room inode at =
      let none : Listing = record { next = 0; entries = [] } in
      let same = ap (λ (o : Option File). (option_map_or (λ f. listing_in f.body) o none).next)
      (file_seen fsid next es to ∙ ap (option_map file_in) at) in
      omega (arith, may.next_cookie, same)

  moved_stored : stored_at es number ≡ Some f
  moved_stored = stored table whole number f may.there

  module _ (t : ℕ) (is : target ≡ Some t) where
    its_entry : (c : ℕ) × (directory_entries fs to to_name ≡ Some (t, c))
    its_entry = entry_there (directory_entries fs to to_name) t (sym may.is_target ∙ is)

    abbrev replaced : File
    replaced = (may.replaces t is).other

    may_clear : MayUnlink fs to to_name t its_entry.0 replaced
    may_clear =
        let r = may.replaces t is in
        record { is_named = its_entry.1; there = r.there; empty = r.empty }

    may_lose : MayUnname es to t replaced
    may_lose = may_unname table whole refl now may_clear

    to_apart : to ≢ t
    to_apart = may_lose.apart

    from_apart : from ≢ t
    from_apart e =
        let r = may.replaces t is in
        let empty = ap (option_and_then (λ f. entry_at (listing_in f.body) from_name)) r.there
        ∙ ap (λ (es : List (List ℕ × (ℕ × ℕ))). lookup (pointwise nat_eq from_name) es) r.empty in
        none_some (sym empty ∙ ap (λ m. directory_entries fs m from_name) (sym e) ∙ may.is_named)

    parent_of_target : is_directory replaced.body ≡ true → 3 ≤ links_at es to
    parent_of_target d =
        links_of_parent fs (links_at es)
        (above_at es) entries blocks whole to to_name t its_entry.0 its_entry.1
        (ap (option_map (λ f. is_directory f.body)) (may.replaces t is).there ∙ ap (λ b. Some b) d)

  parent_of_moved : is_directory f.body ≡ true → 3 ≤ links_at es from
  parent_of_moved d =
      links_of_parent fs (links_at es) (above_at es) entries blocks whole
      from from_name number cookie may.is_named
      (ap (option_map (λ f. is_directory f.body)) may.there ∙ ap (λ b. Some b) d)

  to_positive : 1 ≤ links_at es to
  to_positive =
      let d = dir_file fs to may.directory in
      links_positive fs (links_at es) (above_at es) entries blocks whole to d.0 d.1

  to_bounded : links_at es to ≤ 16386
  to_bounded =
      let d = dir_file fs to may.directory in
      let most = links_bounded fs (links_at es) (above_at es) entries blocks whole to d.0 d.1 in
      omega (arith, most, entries_bounded fs (links_at es) (above_at es) entries blocks whole)

  not_same : to ≡ from → to_name ≢ from_name
  not_same e same =
      may.other (may.is_target ∙ ap (option_map (λ (e : ℕ × ℕ). e.0))
      (ap (λ m. directory_entries fs m to_name) e ∙ ap (directory_entries fs from) same ∙ may.is_named))

  module _ {es₁ : List (ℕ × Inode)}
      (p : ChangesFile to (map_listing (λ l. with_entry l to_name number)) es es₁) where
    put_stored : (t : ℕ) (g : File) → target ≡ Some t → stored_at es t ≡ Some g → stored_at es₁ t ≡ Some g
    put_stored t g is at =
        other_stored es es₁ to (map_listing (λ l. with_entry l to_name number)) p t
        (λ e. to_apart t is (sym e)) ∙ at

    -- what stood at the new name may go by what is kept
    pub may_drop : (t : ℕ) → target ≡ Some t → (g : File) × MayUnname es₁ to t g
    may_drop t is =
        let u = may_lose t is in (
          replaced t is,
          record {
            there = put_stored t (replaced t is) is u.there;
            body = u.body;
            links = omega (arith, u.links, p.links t);
            apart = u.apart;
            counted = λ d. let c = u.counted d in omega (arith, c, p.links to);
          },
        )

    module _ {b : Bool} (told : (g : File) → stored_at es number ≡ Some g → b ≡ is_directory g.body)
        {freed : ℕ} {es₂ : List (ℕ × Inode)} (dropped : DropsTarget now to target freed es₁ es₂) where
      loses : (t : ℕ) (is : target ≡ Some t) → LosesName now to t (replaced t is) freed es₁ es₂
      loses t is = dropped.some t (replaced t is) is (put_stored t (replaced t is) is (may_lose t is).there)

      -- what is freed is among all blocks
      pub freed_among : freed ≤ blocks
      freed_among = by target refl
        where
          by : (o : Option ℕ) → target ≡ o → freed ≤ blocks
          by None e = let zero = dropped.none e in omega (arith, zero)
          by (Some t) e =
              let g = replaced t e in
              let among = kept_blocks table whole t g (may_lose t e).there in
              let most = freed_most (is_last_name g.body (links_at es₁ t)) (blocks_in g.body) blocks among in
              let is = (loses t e).freed_blocks in
              omega (arith, most, is)

      -- links of the directory that the target goes from
      left_to : (least : ℕ) → least ≤ 2 → least ≤ links_at es to → least ≤ links_at es₂ to
      left_to least two most = by target refl
        where
          by : (o : Option ℕ) → target ≡ o → least ≤ links_at es₂ to
          by None e = let s = ap (λ x. links_at x to) (dropped.same e) ∙ p.links to in omega (arith, s, most)
          by (Some t) e = one_less (is_directory (replaced t e).body) (links_at es to) (links_at es₂ to) least
              ((loses t e).links.directory ∙ p.links to) most
              (λ d. let three = parent_of_target t e d in omega (arith, three, two))

      left_most : links_at es₂ to ≤ links_at es to
      left_most = by target refl
        where
          by : (o : Option ℕ) → target ≡ o → links_at es₂ to ≤ links_at es to
          by None e = let s = ap (λ x. links_at x to) (dropped.same e) ∙ p.links to in omega (arith, s)
          by (Some t) e = let s = (loses t e).links.directory ∙ p.links to in omega (arith, s)

      left_other : (n : ℕ) → n ≢ to → target ≢ Some n → links_at es₂ n ≡ links_at es n
      left_other n ne not = by target refl
        where
          by : (o : Option ℕ) → target ≡ o → links_at es₂ n ≡ links_at es n
          by None e = ap (λ x. links_at x n) (dropped.same e) ∙ p.links n
          by (Some t) e =
              (loses t e).links.others n (λ s. not (e ∙ ap (λ m. Some m) (sym s))) ne ∙ p.links n

      left_above : (n : ℕ) → target ≢ Some n → above_at es₂ n ≡ above_at es n
      left_above n not = by target refl
        where
          by : (o : Option ℕ) → target ≡ o → above_at es₂ n ≡ above_at es n
          by None e = ap (λ x. above_at x n) (dropped.same e) ∙ p.above n
          by (Some t) e = (loses t e).above n (λ s. not (e ∙ ap (λ m. Some m) (sym s))) ∙ p.above n

      two_left : is_directory f.body ≡ true → 2 ≤ links_at es₂ from
      two_left d = ⊎_elim
          (λ e.
          let three = subst (λ n. 3 ≤ links_at es n) e (parent_of_moved d) in
          subst (λ n. 2 ≤ links_at es₂ n) (sym e) (left_to 2 (omega arith) (omega (arith, three))))
          (λ ne.
          let s = left_other from ne (λ is. from_apart from is refl) in
          let three = parent_of_moved d in
          omega (arith, s, three))
          (cases_eq from to)

      -- the old directory has a link for the moved one
      pub may_take : b ≡ true → 0 < links_at es₂ from
      may_take h = let two = two_left (sym (told f moved_stored) ∙ h) in omega (arith, two)

      -- an entry goes with what stood at the new name
      pub gone_among : {gone : ℕ} → (target ≡ None → gone ≡ 0) → ((t : ℕ) → target ≡ Some t → gone ≡ 1)
          → gone ≤ entries
      gone_among {gone} without with = by target refl
        where
          by : (o : Option ℕ) → target ≡ o → gone ≤ entries
          by None e = let zero = without e in omega (arith, zero)
          by (Some t) e =
              let one = with t e in
              let some = some_entry table whole refl now (may_clear t e) in
              omega (arith, one, some)

      -- the counts after the target went
      counts_cleared : {gone : ℕ} → (target ≡ None → gone ≡ 0) → ((t : ℕ) → target ≡ Some t → gone ≡ 1)
          → CountsCleared fs to target (links_at es) (links_at es₂) entries blocks
          (entries - gone) (blocks - freed)
      counts_cleared without with = record {
        kept = λ e. (
          (λ n. ap (λ x. links_at x n) (dropped.same e) ∙ p.links n),
          (let zero = without e in omega (arith, zero)),
          (let zero = dropped.none e in omega (arith, zero)),
        );
        unlinked = λ t g e there.
            let l = dropped.some t g e (put_stored t g e (stored table whole t g there)) in (
              record {
                directory = l.links.directory ∙ p.links to;
                own = λ last. l.links.own (ap (is_last_name g.body) (p.links t) ∙ last) ∙ p.links t;
                others = λ n ne apart. l.links.others n ne apart ∙ p.links n;
              },
              (let one = with t e in omega (arith, one, gone_among without with)),
              (
                  let is = l.freed_blocks ∙ ap (blocks_freed g.body) (p.links t) in
                  omega (arith, is, freed_among)
                  ),
            );
      }

      module _ {es₃ : List (ℕ × Inode)} (taken : TakesEntry from from_name b es₂ es₃) where
        t₃ : TakesEntry from from_name (is_directory f.body) es₂ es₃
        t₃ = subst (λ b. TakesEntry from from_name b es₂ es₃) (told f moved_stored) taken

        own_left : from ≡ to → links_at es₃ to + cond (is_directory f.body) 1 0 ≡ links_at es₂ to
        own_left e = subst (λ n. links_at es₃ n + cond (is_directory f.body) 1 0 ≡ links_at es₂ n) e t₃.own

        -- the new directory has a link
        pub to_linked : 0 < links_at es₃ to
        to_linked = ⊎_elim
            (λ e.
            let one = one_less (is_directory f.body) (links_at es₂ to) (links_at es₃ to) 1 (own_left e)
            (left_to 1 (omega arith) to_positive) (λ d. subst (λ n. 2 ≤ links_at es₂ n) e (two_left d)) in
            omega (arith, one))
            (λ ne.
            let s = t₃.links to (λ e. ne (sym e)) in
            let one = left_to 1 (omega arith) to_positive in
            omega (arith, s, one))
            (cases_eq from to)

        -- and may have one more
        pub to_may_gain : links_at es₃ to < 4294967295
        to_may_gain = ⊎_elim
            (λ e. let own = own_left e in omega (arith, own, left_most, to_bounded))
            (λ ne. let s = t₃.links to (λ e. ne (sym e)) in omega (arith, s, left_most, to_bounded))
            (cases_eq from to)

        taken_files : files_of fsid next es₃
            ≡ with_name (without_name (unlink_target now fs to to_name target) from from_name)
            to to_name number
        taken_files = t₃.files fsid next ∙ by target refl
          where
            by : (o : Option ℕ) → target ≡ o → without_name (files_of fsid next es₂) from from_name
                ≡ with_name (without_name (unlink_target now fs to to_name o) from from_name)
                to to_name number
            by None e =
                ap (λ w. without_name w from from_name)
                (ap (files_of fsid next) (dropped.same e) ∙ p.files fsid next)
                ∙ name_swap fs from from_name to to_name number not_same
            by (Some t) e =
                let l = loses t e in
                let g = replaced t e in
                let left = without_name fs to to_name in
                let last = is_last_name g.body (links_at es₁ t) in
                let told_last = last_name_told fs (links_at es) (above_at es) entries blocks whole
                to to_name t (its_entry t e).0 g (may_clear t e) in
                ap (λ w. without_name w from from_name)
                (l.files fsid next
                ∙ ap (λ w. after_unlink last now w t)
                (p.files fsid next
                ∙ sym (name_again fs to to_name number (λ d is. distinct_names fs to d whole.tree.files is)))
                ∙ unlink_swap last now left to t (map_listing (λ l. with_entry l to_name number))
                (to_apart t e)
                ∙ ap (λ b. with_name (after_unlink b now left t) to to_name number)
                (ap (is_last_name g.body) (p.links t) ∙ sym told_last))
                ∙ name_swap (unlink now fs to to_name t) from from_name to to_name number not_same

        left_kind : kind (files_of fsid next es₂) number ≡ kind (files_of fsid next es₁) number
        left_kind = by target refl
          where
            by : (o : Option ℕ) → target ≡ o
                → kind (files_of fsid next es₂) number ≡ kind (files_of fsid next es₁) number
            by None e = ap (λ x. kind (files_of fsid next x) number) (dropped.same e)
            by (Some t) e =
                let apart : number ≢ t = λ s. may.other (e ∙ ap (λ m. Some m) (sym s)) in
                ap (λ w. kind w number) ((loses t e).files fsid next)
                ∙ ap (option_map (λ f. is_directory f.body))
                (unlinked_other _ now (files_of fsid next es₁) t number apart)

        moved_kind : kind (files_of fsid next es₃) number ≡ Some (is_directory f.body)
        moved_kind =
            let takes : Listing → Listing = λ l. without_entry l from_name in
            let puts : Listing → Listing = λ l. with_entry l to_name number in
            ap (λ w. kind w number) (t₃.files fsid next)
            ∙ changed_kinds (files_of fsid next es₂) from (map_listing takes)
            (λ f is. relisted_kind takes f.body) number
            ∙ left_kind ∙ ap (λ w. kind w number) (p.files fsid next)
            ∙ changed_kinds fs to (map_listing puts) (λ f is. relisted_kind puts f.body) number
            ∙ ap (option_map (λ f. is_directory f.body)) may.there

        module _ {es₄ es₅ es₆ es₇ es₈ : List (ℕ × Inode)} (gained : GainsLink to b es₃ es₄)
            (s : SetsParent number to es₄ es₅) (t₆ : ChangesFile number (with_ctime now) es₅ es₆)
            (t₇ : ChangesFile from (with_mtime now) es₆ es₇)
            (t₈ : ChangesFile to (with_mtime now) es₇ es₈) where
          t₄ : GainsLink to (is_directory f.body) es₃ es₄
          t₄ = subst (λ b. GainsLink to b es₃ es₄) (told f moved_stored) gained

          after : files_of fsid next es₈ ≡ move_entry now fs number from from_name to to_name target
          after =
              t₈.files fsid next ∙ ap (λ w. touch now w to)
              (t₇.files fsid next ∙ ap (λ w. touch now w from)
              (t₆.files fsid next ∙ ap (λ w. touch_ctime now w number)
              (s.files fsid next ∙ t₄.files fsid next ∙ taken_files)))

          -- the files after the entry moved
          pub moved_files : files_of fsid next es₈ ≡ move_entry now w number from from_name to to_name target
          moved_files = after ∙ ap (λ v. move_entry now v number from from_name to to_name target) view

          same_links : (n : ℕ) → links_at es₈ n ≡ links_at es₄ n
          same_links n = t₈.links n ∙ t₇.links n ∙ t₆.links n ∙ s.links n

          same_above : (n : ℕ) → above_at es₈ n ≡ above_at es₅ n
          same_above n = t₈.above n ∙ t₇.above n ∙ t₆.above n

          stored_above : is_directory f.body ≡ true → above_at es₅ number ≡ to
          stored_above d = by (inode_at es₄ number) refl
            where
              kind_of : Option Inode → Option Bool
              kind_of o = option_map (λ f. is_directory f.body) (option_map file_in o)

              seen : kind_of (inode_at es₄ number) ≡ Some true
              seen =
                  ap (option_map (λ f. is_directory f.body)) (sym (file_seen fsid next es₄ number))
                  ∙ ap (λ w. kind w number) (t₄.files fsid next) ∙ moved_kind ∙ ap (λ b. Some b) d

              by : (o : Option Inode) → inode_at es₄ number ≡ o → above_at es₅ number ≡ to
              by None e = absurd (none_some (sym (ap kind_of e) ∙ seen))
              by (Some i) e = s.own i e (some_same (sym (ap kind_of e) ∙ seen))

          counts_moved : CountsMoved number from to f target (links_at es₂) (links_at es₃) (links_at es₈)
              (above_at es) (above_at es₈)
          counts_moved = record {
            leaves = t₃.own;
            others_left = t₃.links;
            reaches = same_links to ∙ t₄.own;
            others_reached = λ n ne. same_links n ∙ t₄.links n ne;
            own_above = λ d. same_above number ∙ stored_above d;
            others_above = λ n ne not.
                same_above n ∙ s.others n ne ∙ t₄.above n ∙ t₃.above n ∙ left_above n not;
          }

          -- are kept
          pub moved_kept : IsTime now → now.seconds < 2 ^ 32 → {gone : ℕ} → (target ≡ None → gone ≡ 0)
              → ((t : ℕ) → target ≡ Some t → gone ≡ 1)
              → AreKept fsid next (entries - gone) (blocks - freed) es₈
          moved_kept time word {gone} without with =
              subst (λ w. IsKept w (links_at es₈) (above_at es₈) (entries - gone) (blocks - freed))
              (sym after)
              (kept_by_move now time word fs (links_at es) (links_at es₂) (links_at es₃) (links_at es₈)
              (above_at es) (above_at es₈) entries blocks (entries - gone) (blocks - freed) whole
              number from from_name to to_name f cookie target may (counts_cleared without with) counts_moved)
