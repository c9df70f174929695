-- The bytes of each answer, kind by kind and then call by call.
-- Serves: `laws::answers_fit_a_reply`.
use Rattle.std.proofs.Common.{◌≡◌, ℕ, ◌+◌, ◌-◌, ◌*◌, ◌/◌, ◌%◌, ◌≤◌, Bool, true, false, cond, List, [], ◌∷◌}
use Rattle.std.proofs.Common.{◌++◌, length, map, drop, min, Result, Ok, Err, refl, sym, ap, subst, ◌∙◌, arith}
use Rattle.std.proofs.Common.{lit≤}
use Rattle.std.specs.Prelude.{nat_le, nat_lt}
use Rattle.std.specs.List.{filter, flat_map}
use Rattle.std.proofs.lemmas.List.{length-take, length-append, length-replicate}
use Rattle.std.proofs.lemmas.Bool.{leb-true}
use Rattle.byteorder.specs.Endian.{big_bytes}
use Rattle.byteorder.specs.Numbers.{length-bytes_high_first}
use Rattle.xdr.specs.Item.{Item, Value, spelling, number_spelling, padding, word, opaque, empty, flag, pair}
use Rattle.xdr.specs.Item.{linked}
use Rattle.xdr.proofs.Front.{length-number_spelling}
use Rattle.nfs_spec.specs.nfs_items.Timeval.{Timeval}
use Rattle.nfs_spec.specs.nfs_items.Caller.{Caller}
use Rattle.nfs_spec.specs.nfs_items.Handle.{fhandle, handle_of}
use Rattle.nfs_spec.specs.nfs_items.Attributes.{fattr, fattr_value, stat_or, stat_value, outcome_value}
use Rattle.nfs_spec.specs.nfs_items.declared.attributes.Fattr.{Fattr}
use Rattle.nfs_spec.specs.nfs_items.declared.stat.Stat.{Stat}
use Rattle.nfs_spec.specs.nfs_items.declared.stat.Stat.TheVariants as stats
use Rattle.nfs_spec.specs.nfs_types.Calls as calls
use Rattle.nfs_spec.specs.nfs_types.Calls.{PageEntry, Page, Call, Answer}
use Rattle.nfs_spec.specs.nfs_types.Items.{path, nfsdata, entry, fs_stats}
use Rattle.nfs_spec.specs.nfs_types.Texts.{entry_value, fs_stats_value, answer_text}
use Rattle.nfs_spec.specs.nfs_types.declared.results.FsStats.{FsStats}
use Rattle.nfs_spec.specs.fs_spec.Files.{Files}
use Rattle.nfs_spec.specs.fs_spec.Trees.{IsBody, IsFileTree}
use Rattle.nfs_spec.specs.ProcedureChecks.{◌>>=◌}
use Rattle.nfs_spec.specs.Changes.{Effect}
use Rattle.nfs_spec.specs.Effects.{getattr, lookup, attributes_at}
use Rattle.nfs_spec.specs.Procedures as tree
use Rattle.nfs_spec.specs.Readdir.{cost, longest_front, page_of, dir_entries}
use Rattle.nfs_spec.specs.NfsCalls.{number_for, answer_and_files, with_attributes, with_handle}
use Rattle.nfs_spec.specs.NfsCalls.{without_number, call_does}
use Rattle.nfs_spec.specs.Sattr.{given_fields}
use Rattle.nfs_laws.specs.Steps.Answers.{only_reads}
use Rattle.nfs_laws.proofs.OfSteps.Steps.{ok_same}
use Rattle.nfs_laws.proofs.OfSteps.Reading.{lookup_ok, read_link_ok, read_ok, read_dir_ok}
use Rattle.nfs_laws.specs.Sizes.Bounds.{longest_answer}

-- ---- items

alone : (n : ℕ) → length (number_spelling 4 n ++ []) ≤ 4
alone n = simp (length-append, length-number_spelling) (lit≤ tt)

stat_length : (a : Item) (e : Stat) → length (spelling (stat_or a) (stat_value a e)) ≤ 4
stat_length a stats.Perm = alone 1
stat_length a stats.NoEnt = alone 2
stat_length a stats.Io = alone 5
stat_length a stats.NxIo = alone 6
stat_length a stats.Acces = alone 13
stat_length a stats.Exist = alone 17
stat_length a stats.NoDev = alone 19
stat_length a stats.NotDir = alone 20
stat_length a stats.IsDir = alone 21
stat_length a stats.FBig = alone 27
stat_length a stats.NoSpc = alone 28
stat_length a stats.RoFs = alone 30
stat_length a stats.NameTooLong = alone 63
stat_length a stats.NotEmpty = alone 66
stat_length a stats.DQuot = alone 69
stat_length a stats.Stale = alone 70
stat_length a stats.WFlush = alone 99

fattr_length : (a : Fattr) → length (spelling fattr (fattr_value a)) ≡ 68
fattr_length a = simp (length-append, length-number_spelling)

-- a file handle has 32 bytes
pub handle_length : (fsid n : ℕ) → length (handle_of fsid n) ≡ 32
unfolding handle_of
handle_length fsid n = refl

-- a stat, and after OK what is no longer than `most`
outcome_length : {X : Type 0} (a : Item) (view : X → Value a) (most : ℕ) (r : Result X Stat)
    → ((x : X) → r ≡ Ok x → length (spelling a (view x)) ≤ most)
    → length (spelling (stat_or a) (outcome_value a view r)) ≤ 4 + most
outcome_length a view most (Ok x) short =
    omega (
      arith,
      length-append (number_spelling 4 0) (spelling a (view x)),
      length-number_spelling 4 0,
      short x refl,
    )
outcome_length a view most (Err e) short = omega (arith, stat_length a e)

-- bytes after their length, where at most `most` of them are given, which is a multiple of four
pub opaque_length : (max : ℕ) (bytes : List ℕ)
    → length (spelling (opaque max) bytes) ≡ 4 + 4 * ((length bytes + 3) / 4)
opaque_length max bytes =
    omega (
      arith,
      length-append (number_spelling 4 (length bytes)) (bytes ++ padding (length bytes)),
      length-append bytes (padding (length bytes)),
      length-number_spelling 4 (length bytes),
      length-replicate {A = ℕ} ((4 - length bytes % 4) % 4) 0,
    )

-- ---- the entries of a page

abbrev entry_text : PageEntry → List ℕ
entry_text e = spelling word 1 ++ spelling entry (entry_value e)

entry_length : (e : PageEntry) → length (entry_text e) ≡ cost e
entry_length e =
    omega (
      arith,
      length-append (number_spelling 4 1) (spelling entry (entry_value e)),
      length-append (number_spelling 4 e.fileid)
          (spelling (opaque 255) e.name ++ (big_bytes 4 e.cookie ++ padding 4)),
      length-append (spelling (opaque 255) e.name) (big_bytes 4 e.cookie ++ padding 4),
      length-append (big_bytes 4 e.cookie) (padding 4),
      length-number_spelling 4 1,
      length-number_spelling 4 e.fileid,
      opaque_length 255 e.name,
      length-bytes_high_first 4 e.cookie,
    )

abbrev entries_text : List PageEntry → List ℕ
entries_text es = spelling (linked entry) (map entry_value es)

-- an entry before what is left of the count, or none
with_first : (count : ℕ) (e : PageEntry) (front : List PageEntry)
    → length (entries_text front) ≤ 4 + (count - cost e)
    → (b : Bool) → nat_le (cost e) count ≡ b → length (entries_text (cond b (e ∷ front) [])) ≤ 4 + count
with_first count e front behind true fits =
    let text = flat_map (λ v. number_spelling 4 1 ++ spelling entry v) (map entry_value front) in
    omega (
      arith,
      length-append (entry_text e ++ text) (number_spelling 4 0),
      length-append (entry_text e) text,
      length-append text (number_spelling 4 0),
      entry_length e,
      leb-true (cost e) count fits,
    )
with_first count e front behind false fits = omega (arith, length-number_spelling 4 0)

-- the entries of a front whose costs add up to at most the count, and FALSE after them
entries_length : (count : ℕ) (es : List PageEntry)
    → length (entries_text (longest_front count es)) ≤ 4 + count
entries_length count [] = omega (arith, length-number_spelling 4 0)
entries_length count (e ∷ es) =
    with_first count e (longest_front (count - cost e) es) (entries_length (count - cost e) es)
    (nat_le (cost e) count) refl

-- ---- each kind of answer

attributes_length : (r : Result Fattr Stat) → length (answer_text (calls.Attributes r)) ≤ 72
attributes_length r = outcome_length fattr fattr_value 68 r (λ a is. omega (arith, fattr_length a))

dir_op_length : (r : Result (List ℕ × Fattr) Stat) → ((x : List ℕ × Fattr) → r ≡ Ok x → length x.0 ≡ 32)
    → length (answer_text (calls.DirOp r)) ≤ 104
dir_op_length r is_handle = outcome_length (pair fhandle fattr) (λ x. (x.0, fattr_value x.1)) 100 r (λ x is.
    omega (
      arith,
      length-append (spelling fhandle x.0) (spelling fattr (fattr_value x.1)),
      length-append x.0 (padding 32),
      is_handle x is,
      fattr_length x.1,
    ))

status_length : (r : Result (Unit {0}) Stat) → length (answer_text (calls.Status r)) ≤ 4
status_length r = outcome_length empty (λ x. x) 0 r (λ x is. omega arith)

target_length : (r : Result (List ℕ) Stat) → ((target : List ℕ) → r ≡ Ok target → length target ≤ 1024)
    → length (answer_text (calls.Target r)) ≤ 1032
target_length r short =
    outcome_length path (λ target. target) 1028 r
    (λ target is. omega (arith, opaque_length 1024 target, short target is))

bytes_length : (r : Result (Fattr × List ℕ) Stat) → ((x : Fattr × List ℕ) → r ≡ Ok x → length x.1 ≤ 8192)
    → length (answer_text (calls.Bytes r)) ≤ longest_answer
bytes_length r short = outcome_length (pair fattr nfsdata) (λ x. (fattr_value x.0, x.1)) 8264 r (λ x is.
    omega (
      arith,
      length-append (spelling fattr (fattr_value x.0)) (spelling nfsdata x.1),
      fattr_length x.0,
      opaque_length 8192 x.1,
      short x is,
    ))

page_length : (r : Result Page Stat) → ((p : Page) → r ≡ Ok p → length (entries_text p.entries) ≤ 8196)
    → length (answer_text (calls.Entries r)) ≤ 8204
page_length r short =
    outcome_length (pair (linked entry) flag) (λ p. (map entry_value p.entries, p.eof)) 8200 r (λ p is.
    omega (
      arith,
      length-append (entries_text p.entries) (number_spelling 4 (cond p.eof 1 0)),
      length-number_spelling 4 (cond p.eof 1 0),
      short p is,
    ))

free_length : (r : Result FsStats Stat) → length (answer_text (calls.Free r)) ≤ 24
free_length r =
    outcome_length fs_stats fs_stats_value 20 r
    (λ f is. let e : length (spelling fs_stats (fs_stats_value f)) ≡ 20 =
    simp (length-append, length-number_spelling) in omega (arith, e))

-- ---- calls that change files

changed_length : {A : Type 0} (say : Result A Stat → Answer) (most : ℕ)
    → ((r : Result A Stat) → length (answer_text (say r)) ≤ most)
    → (w : Files) (e : Effect A) → length (answer_text (answer_and_files say w e).0) ≤ most
changed_length say most short w (Ok x) = short (Ok x.0)
changed_length say most short w (Err e) = short (Err e)

-- the number that an effect gives, by its handle, with its attributes
given_length : (w : Files) (e : Effect ℕ)
    → length (answer_text (answer_and_files calls.DirOp w (with_handle e)).0) ≤ 104
given_length w (Ok (n, after)) = of_attributes (attributes_at after n)
  where
    of_attributes : (r : Result Fattr Stat)
        → length (answer_text (answer_and_files calls.DirOp w
        (r >>= λ a. Ok ((handle_of after.fsid n, a), after))).0) ≤ 104
    of_attributes (Ok a) =
        dir_op_length (Ok (handle_of after.fsid n, a))
        (λ x is. ap (λ (x : List ℕ × Fattr). length x.0) (ok_same (sym is)) ∙ handle_length after.fsid n)
    of_attributes (Err e) = dir_op_length (Err e) (λ x is. absurd cc)
given_length w (Err e) = dir_op_length (Err e) (λ x is. absurd cc)

-- ---- each call

-- the answer to a call that changes files
pub change_length : (w : Files) (who : Caller) (now : Timeval) (call : Call) → only_reads call ≡ false
    → length (answer_text (call_does w who now call).0) ≤ 104
change_length w who now calls.Null changes = absurd cc
change_length w who now (calls.Getattr file) changes = absurd cc
change_length w who now (calls.Setattr file s) changes =
    omega (
      arith,
      changed_length calls.Attributes 72 attributes_length w
          (with_attributes (number_for w file)
          (tree.set_attributes w who now (number_for w file) (given_fields now s))),
    )
change_length w who now calls.Root changes = absurd cc
change_length w who now (calls.Lookup dir name) changes = absurd cc
change_length w who now (calls.Readlink file) changes = absurd cc
change_length w who now (calls.Read file offset count) changes = absurd cc
change_length w who now calls.Writecache changes = absurd cc
change_length w who now (calls.Write file offset new) changes =
    omega (
      arith,
      changed_length calls.Attributes 72 attributes_length w
          (with_attributes (number_for w file) (tree.write w who now (number_for w file) offset new)),
    )
change_length w who now (calls.Create dir name s) changes =
    given_length w (tree.create w who now (number_for w dir) name (given_fields now s))
change_length w who now (calls.Remove dir name) changes =
    omega (
      arith,
      changed_length calls.Status 4 status_length w
          (tree.remove w who now (number_for w dir) name),
    )
change_length w who now (calls.Rename from from_name to to_name) changes =
    omega (
      arith,
      changed_length calls.Status 4 status_length w
          (tree.rename w who now (number_for w from) from_name (number_for w to) to_name),
    )
change_length w who now (calls.Link from dir name) changes =
    omega (
      arith,
      changed_length calls.Status 4 status_length w
          (tree.link w who now (number_for w from) (number_for w dir) name),
    )
change_length w who now (calls.Symlink dir name target s) changes =
    omega (
      arith,
      changed_length calls.Status 4 status_length w
          (without_number (tree.symlink w who now (number_for w dir) name target)),
    )
change_length w who now (calls.Mkdir dir name s) changes =
    given_length w (tree.make_dir w who now (number_for w dir) name (given_fields now s))
change_length w who now (calls.Rmdir dir name) changes =
    omega (
      arith,
      changed_length calls.Status 4 status_length w
          (tree.remove_dir w who now (number_for w dir) name),
    )
change_length w who now (calls.Readdir dir cookie count) changes = absurd cc
change_length w who now (calls.Statfs file) changes = absurd cc

-- an answer with attributes or a file handle, or neither
few : (n : ℕ) → n ≤ 104 → n ≤ longest_answer
few n h = omega arith

-- the answer to any call
pub answer_length : (w : Files) (who : Caller) (now : Timeval) → IsFileTree w → (call : Call)
    → length (answer_text (call_does w who now call).0) ≤ longest_answer
answer_length w who now h calls.Null = omega arith
answer_length w who now h (calls.Getattr file) = omega (arith, attributes_length (getattr w file))
answer_length w who now h (calls.Setattr file s) = few _ (change_length w who now (calls.Setattr file s) refl)
answer_length w who now h calls.Root = omega arith
answer_length w who now h (calls.Lookup dir name) =
    few _ (dir_op_length (lookup w who dir name)
    (λ x is. let o = lookup_ok w who dir name x.0 x.1 is in
    ap length o.answer ∙ handle_length w.fsid o.number))
answer_length w who now h (calls.Readlink file) =
    let few_bytes = target_length (tree.read_link w (number_for w file)) (λ t is.
    let o = read_link_ok w (number_for w file) t is in
    subst IsBody o.answer (h.files (number_for w file) o.file o.there).body) in
    omega arith
answer_length w who now h (calls.Read file offset count) =
    bytes_length (tree.read w who (number_for w file) offset count) (λ x is.
    let o = read_ok w who (number_for w file) offset count x.0 x.1 is in
    omega (arith, ap length o.answer, length-take (min count 8192) (drop offset o.bytes)))
answer_length w who now h calls.Writecache = omega arith
answer_length w who now h (calls.Write file offset new) =
    few _ (change_length w who now (calls.Write file offset new) refl)
answer_length w who now h (calls.Create dir name s) =
    few _ (change_length w who now (calls.Create dir name s) refl)
answer_length w who now h (calls.Remove dir name) =
    few _ (change_length w who now (calls.Remove dir name) refl)
answer_length w who now h (calls.Rename from from_name to to_name) =
    few _ (change_length w who now (calls.Rename from from_name to to_name) refl)
answer_length w who now h (calls.Link from dir name) =
    few _ (change_length w who now (calls.Link from dir name) refl)
answer_length w who now h (calls.Symlink dir name target s) =
    few _ (change_length w who now (calls.Symlink dir name target s) refl)
answer_length w who now h (calls.Mkdir dir name s) =
    few _ (change_length w who now (calls.Mkdir dir name s) refl)
answer_length w who now h (calls.Rmdir dir name) = few _ (change_length w who now (calls.Rmdir dir name) refl)
answer_length w who now h (calls.Readdir dir cookie count) =
    let few_bytes = page_length (tree.read_dir w who (number_for w dir) cookie count) (λ p is.
    let o = read_dir_ok w who (number_for w dir) cookie count p is in
    let es = filter (λ e. nat_lt cookie e.cookie) (dir_entries w (number_for w dir) o.listing) in
    let short : length (entries_text (page_of cookie count
    (dir_entries w (number_for w dir) o.listing)).entries) ≤ 8196 =
    omega (arith, entries_length (min count 8192) es) in
    subst (λ (p : Page). length (entries_text p.entries) ≤ 8196) (sym o.answer) short) in
    omega arith
answer_length w who now h (calls.Statfs file) =
    omega (arith, free_length (tree.stat_fs w (number_for w file)))
