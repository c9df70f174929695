-- Files that a list of numbers and files gives, where each entry shadows those of its number after it: what
-- is looked up in them, counted over them, and left of them after each kind of change.
-- Serves: all worked calls of this crate, so that each computes to its whole answer.
use Rattle.std.proofs.Common.{◌≡◌, ℕ, List, [], ◌∷◌, length, map, sum_by, Option, Some, None, refl, sym, ap}
use Rattle.std.proofs.Common.{◌∙◌, arith, true, false, cond, not, Equal}
use Rattle.std.specs.Ordering.{nat_cmp, eq_by_cmp}
use Rattle.std.specs.FinMap as finite
use Rattle.std.specs.FinMap.Entries.{where_key, find-where_key}
use Rattle.std.specs.Cmp.{nat_cmp_total, eq_by_cmp_equiv}
use Rattle.std.specs.Prelude.{Bool, nat_le, ◌&&◌, ◌+◌}
use Rattle.std.specs.Option.{option_map_or}
use Rattle.std.specs.List.{list_all}
use Rattle.nfs_items.specs.Timeval.{Timeval}
use Rattle.fs_spec.specs.Listing.{with_entry}
use Rattle.fs_spec.specs.Files.{File, file_at, listing_in}
use Rattle.fs_spec.specs.Changes.Edits.{with_changed_file, with_name, without_file, map_listing}
use Rattle.nfs_spec.specs.Changes.{touch, with_mtime, touch_ctime, with_ctime}
use Rattle.nfs_spec.specs.Procedures.{add_file}
use Rattle.fs_spec.specs.Changes.Limits.{has_room, blocks_in, block_count, entry_count}
use Rattle.nfs_examples.specs.Worked.{files_from}
use Rattle.nfs_spec.proofs.OpeningFiles.{none_yet}

-- the list in order, without what is shadowed
abbrev pub in_order : List (ℕ × File) → List (ℕ × File)
in_order [] = []
in_order (e ∷ es) = finite.put nat_cmp e.0 e.1 (in_order es)

-- the files in the order of their numbers
pub entries_of : (next : ℕ) (es : List (ℕ × File)) → finite.entries (files_from next es).files ≡ in_order es
entries_of next [] = none_yet
entries_of next (e ∷ es) =
    finite.entries-insert nat_cmp_total _ e.0 e.1 ∙ ap (finite.put nat_cmp e.0 e.1) (entries_of next es)

-- the file of a number is the first that the list has
pub file_of_list : (next : ℕ) (es : List (ℕ × File)) (n : ℕ)
    → file_at (files_from next es) n ≡ finite.find nat_cmp n es
file_of_list next es n = finite.get-from_entries nat_cmp_total es n

-- an entry at the front is the one that is found
pub found_first : (n : ℕ) (f : File) (es : List (ℕ × File)) → finite.find nat_cmp n ((n, f) ∷ es) ≡ Some f
found_first n f es =
    ap (λ b. cond b (Some f) (finite.find nat_cmp n es)) ((eq_by_cmp_equiv nat_cmp_total).refl n)

-- whether a list passes no limit
abbrev pub room_in : ℕ → List (ℕ × File) → Bool
room_in next es =
    nat_le (length es) 8192 &&
    (nat_le (sum_by (λ f. length (listing_in f.body).entries) (map (λ e. e.1) es)) 16384 &&
    (nat_le (sum_by (λ f. blocks_in f.body) (map (λ e. e.1) es)) 32768 && (nat_le next 4294967295
    && list_all (λ f. nat_le (listing_in f.body).next 4294967295) (map (λ e. e.1) es))))

-- whether the files have room, computed from the list
pub room_of : (next : ℕ) (es : List (ℕ × File)) → has_room (files_from next es) ≡ room_in next (in_order es)
room_of next es =
    ap (λ n. nat_le n 8192 &&
    (nat_le (entry_count (files_from next es)) 16384 &&
    (nat_le (block_count (files_from next es)) 32768 && (nat_le next 4294967295
    && list_all (λ f. nat_le (listing_in f.body).next 4294967295)
    (finite.values (files_from next es).files)))))
    (finite.len-entries (files_from next es).files)
    ∙ ap (room_in next) (entries_of next es)

-- the blocks that are taken, computed from the list
pub blocks_of : (next : ℕ) (es : List (ℕ × File))
    → block_count (files_from next es) ≡ sum_by (λ f. blocks_in f.body) (map (λ e. e.1) (in_order es))
blocks_of next es =
    ap (λ (fs : List (ℕ × File)). sum_by (λ f. blocks_in f.body) (map (λ e. e.1) fs)) (entries_of next es)

-- ---- without the file of a number

-- a list of numbered files without those of one number
abbrev pub list_without : ℕ → List (ℕ × File) → List (ℕ × File)
list_without k es = where_key nat_cmp (λ x. not (eq_by_cmp nat_cmp k x)) es

alike : (k q x : ℕ) → nat_cmp q x ≡ Equal → not (eq_by_cmp nat_cmp k x) ≡ not (eq_by_cmp nat_cmp k q)
alike k q x e = ap (λ y. not (eq_by_cmp nat_cmp k y)) (sym (finite.nat_cmp-IsAntisymmetric q x e))

turned : {A : Type 0} (b c : Bool) (o : Option A) → b ≡ c → cond b None o ≡ cond (not c) o None
turned true true o e = refl
turned false false o e = refl
turned true false o e = absurd cc
turned false true o e = absurd cc

-- a file taken away is a file taken out of the list
pub without_in : (k : ℕ) (es : List (ℕ × File))
    → finite.remove (finite.from_entries {R = nat_cmp} es) k ≡ finite.from_entries (list_without k es)
without_in k es =
    finite.same_map nat_cmp_total finite.nat_cmp-IsAntisymmetric _ _ (λ q.
    finite.get-remove nat_cmp_total (finite.from_entries es) k q
    ∙ ap (cond (eq_by_cmp nat_cmp q k) None) (finite.get-from_entries nat_cmp_total es q)
    ∙ turned _ _ (finite.find nat_cmp q es) ((eq_by_cmp_equiv nat_cmp_total).symm q k)
    ∙ sym (finite.get-from_entries nat_cmp_total (list_without k es) q
    ∙ find-where_key nat_cmp (λ x. not (eq_by_cmp nat_cmp k x)) q (λ x. alike k q x) es))

-- two lists that give the same in order are of the same files
pub same_files : (next : ℕ) (es fs : List (ℕ × File)) → in_order es ≡ in_order fs
    → files_from next es ≡ files_from next fs
same_files next es fs e =
    ap (λ m. record { fsid = 1; next = next; files = m })
    (finite.same_entries_map _ _ (entries_of next es ∙ e ∙ sym (entries_of next fs)))

-- ---- changes of files that a list gives

-- a file of a list, changed
pub changed_in : (next : ℕ) (es : List (ℕ × File)) (n : ℕ) (change : File → File) (f : File)
    → finite.find nat_cmp n es ≡ Some f
    → with_changed_file (files_from next es) n change ≡ files_from next ((n, change f) ∷ es)
changed_in next es n change f there =
    ap (λ (o : Option File). record {
      fsid = 1;
      next = next;
      files =
          option_map_or (λ f. finite.from_entries ((n, change f) ∷ es)) o (finite.from_entries es);
    })
    (file_of_list next es n ∙ there)

-- a new file with a name, in a directory of a list
pub made_is : (now : Timeval) (next : ℕ) (es : List (ℕ × File)) (dir : ℕ) (name : List ℕ) (f d : File)
    (target : List (ℕ × File)) → finite.find nat_cmp dir ((next, f) ∷ es) ≡ Some d
    → in_order ((dir, with_mtime now (map_listing (λ l. with_entry l name next) d))
    ∷ (dir, map_listing (λ l. with_entry l name next) d) ∷ (next, f) ∷ es) ≡ in_order target
    → (add_file now (files_from next es) dir name f).files ≡ (files_from (next + 1) target).files
made_is now next es dir name f d target there same =
    let put : File → File = map_listing (λ l. with_entry l name next) in
    ap (λ w. w.files) (ap (λ w. touch now w dir) (changed_in (next + 1) ((next, f) ∷ es) dir put d there)
    ∙ changed_in (next + 1) ((dir, put d) ∷ (next, f) ∷ es) dir (with_mtime now) (put d)
    (found_first dir (put d) ((next, f) ∷ es))
    ∙ same_files (next + 1) ((dir, with_mtime now (put d)) ∷ (dir, put d) ∷ (next, f) ∷ es) target same)

-- another name for a file, in a directory of a list
pub named_is : (now : Timeval) (next : ℕ) (es : List (ℕ × File)) (n dir : ℕ) (name : List ℕ) (d : File)
    (target : List (ℕ × File)) → finite.find nat_cmp dir es ≡ Some d
    → in_order ((dir, with_mtime now (map_listing (λ l. with_entry l name n) d))
    ∷ (dir, map_listing (λ l. with_entry l name n) d) ∷ es) ≡ in_order target
    → (touch now (with_name (files_from next es) dir name n) dir).files ≡ (files_from next target).files
named_is now next es n dir name d target there same =
    let put : File → File = map_listing (λ l. with_entry l name n) in
    ap (λ w. w.files) (ap (λ w. touch now w dir) (changed_in next es dir put d there)
    ∙ changed_in next ((dir, put d) ∷ es) dir (with_mtime now) (put d) (found_first dir (put d) es)
    ∙ same_files next ((dir, with_mtime now (put d)) ∷ (dir, put d) ∷ es) target same)

-- a directory is touched when a file has a name less
pub marked_is : (now : Timeval) (next : ℕ) (es : List (ℕ × File)) (n dir : ℕ) (f d : File)
    (target : List (ℕ × File)) → finite.find nat_cmp n es ≡ Some f
    → finite.find nat_cmp dir ((n, with_ctime now f) ∷ es) ≡ Some d
    → in_order ((dir, with_mtime now d) ∷ (n, with_ctime now f) ∷ es) ≡ in_order target
    → (touch now (touch_ctime now (files_from next es) n) dir).files ≡ (files_from next target).files
marked_is now next es n dir f d target there dir_there same =
    ap (λ w. w.files) (ap (λ w. touch now w dir) (changed_in next es n (with_ctime now) f there)
    ∙ changed_in next ((n, with_ctime now f) ∷ es) dir (with_mtime now) d dir_there
    ∙ same_files next ((dir, with_mtime now d) ∷ (n, with_ctime now f) ∷ es) target same)

-- and when a file is gone
pub gone_is : (now : Timeval) (next : ℕ) (es : List (ℕ × File)) (n dir : ℕ) (d : File)
    (target : List (ℕ × File)) → finite.find nat_cmp dir (list_without n es) ≡ Some d
    → in_order ((dir, with_mtime now d) ∷ list_without n es) ≡ in_order target
    → (touch now (without_file (files_from next es) n) dir).files ≡ (files_from next target).files
gone_is now next es n dir d target there same =
    ap (λ w. w.files) (ap (λ m. touch now (record { fsid = 1; next = next; files = m }) dir) (without_in n es)
    ∙ changed_in next (list_without n es) dir (with_mtime now) d there
    ∙ same_files next ((dir, with_mtime now d) ∷ list_without n es) target same)
