-- The files that a server begins with.
-- Serves: opening_files_show, opening_files_are_a_tree (nfs_spec).
use Rattle.std.proofs.Common.{◌≡◌, ℕ, ◌+◌, Bool, cond, true, false, List, [], ◌∷◌, Option, Some, Ok, refl}
use Rattle.std.proofs.Common.{sym, ap, ◌∙◌, map, sum_by, length, arith}
use Rattle.std.specs.Prelude.{nat_le, ◌&&◌}
use Rattle.std.specs.List.{list_all}
use Rattle.std.specs.Option.{option_map_or}
use Rattle.std.specs.Ordering.{nat_cmp}
use Rattle.std.specs.FinMap as finite
use Rattle.std.specs.Cmp.{nat_cmp_total}
use Rattle.fs_spec.specs.nfs_items.Caller.{nobody}
use Rattle.fs_spec.specs.nfs_items.Handle.{handle_of, number_in}
use Rattle.fs_spec.specs.nfs_items.declared.stat.Stat.TheVariants as stats
use Rattle.fs_spec.specs.Files.{File, Files, file_at, listing_in, is_directory, names_of, names_in}
use Rattle.fs_spec.specs.Changes.Limits.{blocks_in, has_room}
use Rattle.nfs_spec.specs.FileAttributes.{attributes_of, nlink_of}
use Rattle.nfs_spec.specs.Effects.{attributes_at, number_at_name, getattr, lookup}
use Rattle.nfs_spec.specs.ProcedureChecks.{◌>>=◌, ok_or}
use Rattle.nfs_spec.specs.Opening.{hello, opening_root, opening_hello, opening_files}

-- number 1 is the root
pub root_there : (fsid : ℕ) → file_at (opening_files fsid) 1 ≡ Some opening_root
root_there fsid = finite.get-from_entries nat_cmp_total ((1, opening_root) ∷ (2, opening_hello) ∷ []) 1

-- number 2 is `hello`
pub hello_there : (fsid : ℕ) → file_at (opening_files fsid) 2 ≡ Some opening_hello
hello_there fsid = finite.get-from_entries nat_cmp_total ((1, opening_root) ∷ (2, opening_hello) ∷ []) 2

no_length : {A : Type 0} (es : List A) → length es ≡ 0 → es ≡ []
no_length [] e = refl
no_length (x ∷ es) e = absurd (omega arith)

-- no files have no entries
pub none_yet : finite.entries (finite.empty {X = File} {R = nat_cmp}) ≡ []
none_yet = no_length _ (sym (finite.len-entries (finite.empty {X = File} {R = nat_cmp}))
    ∙ finite.len-empty nat_cmp File)

-- the list of all files
pub opening_entries : (fsid : ℕ)
    → finite.entries (opening_files fsid).files ≡ (1, opening_root) ∷ (2, opening_hello) ∷ []
opening_entries fsid =
    finite.entries-insert nat_cmp_total _ 1 opening_root
    ∙ ap (finite.put nat_cmp 1 opening_root)
    (finite.entries-insert nat_cmp_total _ 2 opening_hello ∙ ap (finite.put nat_cmp 2 opening_hello) none_yet)

-- names are counted over the two files
pub opening_names : (fsid n : ℕ)
    → names_of (opening_files fsid) n ≡ sum_by (names_in n) (opening_root ∷ opening_hello ∷ [])
opening_names fsid n =
    ap (λ (es : List (ℕ × File)). sum_by (names_in n) (map (λ e. e.1) es)) (opening_entries fsid)

-- whether these files pass no limit
room_in : ℕ → List (ℕ × File) → Bool
room_in count es =
    nat_le count 8192 && (nat_le (sum_by (λ f. length (listing_in f.body).entries)
    (map (λ e. e.1) es)) 16384 &&
    (nat_le (sum_by (λ f. blocks_in f.body) (map (λ e. e.1) es)) 32768 && (nat_le 3 4294967295
    && list_all (λ f. nat_le (listing_in f.body).next 4294967295) (map (λ e. e.1) es))))

-- the opening files pass no limit
pub opening_room : (fsid : ℕ) → has_room (opening_files fsid) ≡ true
unfolding room_in
opening_room fsid =
    ap (λ n. room_in n (finite.entries (opening_files fsid).files))
    (finite.len-entries (opening_files fsid).files)
    ∙ ap (λ es. room_in (length es) es) (opening_entries fsid)

root_handle : number_in 1 (handle_of 1 1) ≡ Some 1
unfolding number_in handle_of
root_handle = refl

-- attributes, given the number of names
with_nlink : (w : Files) (n : ℕ) (f : File) (k : ℕ) → nlink_of w n f.body ≡ k
    → attributes_of w n f ≡ record (attributes_of w n f) { nlink = k }
with_nlink w n f k h = ap (λ k. record (attributes_of w n f) { nlink = k }) h

root_nlink : nlink_of (opening_files 1) 1 opening_root.body ≡ 2
root_nlink =
    ap (λ (o : Option File). 2 + (0 + cond (option_map_or (λ f. is_directory f.body) o false) 1 0))
    (hello_there 1)

hello_nlink : nlink_of (opening_files 1) 2 opening_hello.body ≡ 1
hello_nlink = opening_names 1 2

root_attributes : attributes_at (opening_files 1) 1
    ≡ Ok (record (attributes_of (opening_files 1) 1 opening_root) { nlink = 2 })
root_attributes =
    ap (λ o. ok_or stats.Stale o >>= λ f. Ok (attributes_of (opening_files 1) 1 f)) (root_there 1)
    ∙ ap (λ a. Ok a) (with_nlink (opening_files 1) 1 opening_root 2 root_nlink)

hello_attributes : attributes_at (opening_files 1) 2
    ≡ Ok (record (attributes_of (opening_files 1) 2 opening_hello) { nlink = 1 })
hello_attributes =
    ap (λ o. ok_or stats.Stale o >>= λ f. Ok (attributes_of (opening_files 1) 2 f)) (hello_there 1)
    ∙ ap (λ a. Ok a) (with_nlink (opening_files 1) 2 opening_hello 1 hello_nlink)

-- GETATTR of the root
pub root_shows : getattr (opening_files 1) (handle_of 1 1)
    ≡ Ok (record (attributes_of (opening_files 1) 1 opening_root) { nlink = 2 })
root_shows = ap (λ o. ok_or stats.Stale o >>= attributes_at (opening_files 1)) root_handle ∙ root_attributes

hello_found : number_at_name (opening_files 1) nobody 1 hello ≡ Ok 2
hello_found = rw (root_there 1) refl

-- LOOKUP of `hello`
pub hello_shows : lookup (opening_files 1) nobody (handle_of 1 1) hello
    ≡ Ok (handle_of 1 2, record (attributes_of (opening_files 1) 2 opening_hello) { nlink = 1 })
hello_shows =
    ap (λ o. ok_or stats.Stale o >>= λ d. number_at_name (opening_files 1) nobody d hello
    >>= λ n. attributes_at (opening_files 1) n >>= λ a. Ok (handle_of 1 n, a)) root_handle
    ∙ ap (λ r. r >>= λ n. attributes_at (opening_files 1) n >>= λ a. Ok (handle_of 1 n, a)) hello_found
    ∙ ap (λ r. r >>= λ a. Ok (handle_of 1 2, a)) hello_attributes
