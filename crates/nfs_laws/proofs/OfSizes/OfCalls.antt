-- The answer of each call fits, each kind by itself and then call by call.
-- Serves: `laws::answers_have_a_spelling` (its clause `spelled`).
use Rattle.std.proofs.Common.{◌≡◌, ℕ, ◌<◌, ◌≤◌, ◌^◌, Bool, true, false, List, [], ◌∷◌, ◌++◌, length, map}
use Rattle.std.proofs.Common.{drop, min, replicate, Some, Result, Ok, Err, refl, sym, ap, subst, ◌∙◌, arith}
use Rattle.std.specs.List.{AllByRecursion}
use Rattle.std.proofs.lemmas.List.{length-take, length-append, length-replicate}
use Rattle.byteorder.specs.Endian.{big_bytes}
use Rattle.byteorder.specs.Numbers.{length-bytes_high_first}
use Rattle.xdr.specs.Item.{Value, Fits, word, opaque, empty, flag, pair, linked}
use Rattle.nfs_spec.specs.nfs_items.Timeval.{Timeval}
use Rattle.nfs_spec.specs.nfs_items.Caller.{Caller}
use Rattle.nfs_spec.specs.nfs_items.Handle.{fhandle, handle_of}
use Rattle.nfs_spec.specs.nfs_items.Attributes.{fattr, fattr_value}
use Rattle.nfs_spec.specs.nfs_items.declared.attributes.Fattr.{Fattr}
use Rattle.nfs_spec.specs.nfs_items.declared.stat.Stat.{Stat}
use Rattle.nfs_spec.specs.fs_spec.Files.{Files, is_directory, listing_in}
use Rattle.nfs_spec.specs.fs_spec.Trees.{IsBody}
use Rattle.nfs_spec.proofs.fs_spec.Walks.{none_some}
use Rattle.nfs_spec.specs.ProcedureChecks.{file_of}
use Rattle.nfs_spec.specs.Effects.{getattr, lookup}
use Rattle.nfs_spec.specs.LawTerms.{stat_in}
use Rattle.nfs_spec.specs.nfs_types.Calls.{PageEntry, Page, Call, Answer}
use Rattle.nfs_spec.specs.nfs_types.declared.results.FsStats.{FsStats}
use Rattle.nfs_spec.specs.Procedures.{read_link, read, read_dir, stat_fs}
use Rattle.nfs_spec.specs.nfs_types.Calls as calls
use Rattle.nfs_spec.specs.NfsCalls.{number_for, call_does}
use Rattle.nfs_laws.specs.Steps.Answers.{refusal_in, only_reads}
use Rattle.nfs_laws.specs.Steps.Read.{AttributesOk}
use Rattle.nfs_laws.proofs.OfSteps.Steps.{bind_ok, ok_same}
use Rattle.nfs_laws.proofs.OfSteps.Reading.{getattr_ok, lookup_ok, read_link_ok, read_ok, read_dir_ok}
use Rattle.nfs_laws.proofs.OfSteps.EachCall.{each_call}
use Rattle.nfs_spec.specs.nfs_types.Items.{path, entry}
use Rattle.nfs_spec.specs.nfs_types.Texts.{entry_value, fs_stats_value, IsSpelled}
use Rattle.nfs_laws.proofs.OfSizes.Values.{outcome_fits, AreSpelled, attributes_fit, EntryFits, page_fits}

-- ---- values

at_fits : (w : Files) → AreSpelled w → (n : ℕ) (a : Fattr) → AttributesOk w n a → Fits fattr (fattr_value a)
at_fits w h n a o =
    subst (λ (a : Fattr). Fits fattr (fattr_value a)) (sym o.answer) (attributes_fit w h n o.file o.there)

handle_fits : (fsid n : ℕ) → length (handle_of fsid n) ≡ 32
unfolding handle_of
handle_fits fsid n =
    omega (
      arith,
      length-append (big_bytes 4 fsid) (big_bytes 4 n ++ replicate 24 0),
      length-append (big_bytes 4 n) (replicate {A = ℕ} 24 0),
      length-bytes_high_first 4 fsid,
      length-bytes_high_first 4 n,
      length-replicate {A = ℕ} 24 0,
    )

abbrev pair_value : List ℕ × Fattr → Value (pair fhandle fattr)
pair_value x = (x.0, fattr_value x.1)

abbrev data_value : Fattr × List ℕ → Value (pair fattr (opaque 8192))
data_value x = (fattr_value x.0, x.1)

abbrev page_value : Page → Value (pair (linked entry) flag)
page_value p = (map entry_value p.entries, p.eof)

-- ---- each kind of answer

of_attributes : (r : Result Fattr Stat) → ((a : Fattr) → r ≡ Ok a → Fits fattr (fattr_value a))
    → IsSpelled (calls.Attributes r)
of_attributes r fits = record { fits = outcome_fits fattr fattr_value r fits; cookies = tt }

of_dir_op : (r : Result (List ℕ × Fattr) Stat)
    → ((x : List ℕ × Fattr) → r ≡ Ok x → Fits (pair fhandle fattr) (pair_value x)) → IsSpelled (calls.DirOp r)
of_dir_op r fits = record { fits = outcome_fits (pair fhandle fattr) pair_value r fits; cookies = tt }

of_status : (r : Result (Unit {0}) Stat) → IsSpelled (calls.Status r)
of_status r = record { fits = outcome_fits empty (λ x. x) r (λ x h. tt); cookies = tt }

entries_fit : (es : List PageEntry) → AllByRecursion EntryFits es
    → AllByRecursion (Fits entry) (map entry_value es)
entries_fit [] a = tt
entries_fit (e ∷ es) a = (
  (a.0.fileid, ((omega (arith, a.0.name), a.0.name), length-bytes_high_first 4 e.cookie)),
  entries_fit es a.1,
)

cookies_fit : (es : List PageEntry) → AllByRecursion EntryFits es
    → AllByRecursion (λ c. c < 2 ^ 32) (map (λ e. e.cookie) es)
cookies_fit [] a = tt
cookies_fit (e ∷ es) a = (a.0.cookie, cookies_fit es a.1)

of_entries : (r : Result Page Stat) → ((p : Page) → r ≡ Ok p → AllByRecursion EntryFits p.entries)
    → IsSpelled (calls.Entries r)
of_entries (Ok p) fits =
    record {
      fits =
          outcome_fits (pair (linked entry) flag) page_value (Ok p)
          (λ q h. (entries_fit q.entries (fits q h), tt));
      cookies = cookies_fit p.entries (fits p refl);
    }
of_entries (Err e) fits =
    record {
      fits =
          outcome_fits (pair (linked entry) flag) page_value (Err e)
          (λ q h. (entries_fit q.entries (fits q h), tt));
      cookies = tt;
    }

-- ---- calls that change files

never : {A : Type 0} {s : Stat} {a : A} → Err s ≡ Ok a → ⊥
never h = cc

-- what is granted isn't refused
granted : {A : Type 0} (r : Result A Stat) (x : A) (stat : Stat) → r ≡ Ok x → stat_in r ≡ Some stat → ⊥
granted r x stat is h = none_some (sym (ap stat_in is) ∙ h)

-- a refusal has a spelling
refusal_spelled : (answer : Answer) (stat : Stat) → refusal_in answer ≡ Some stat → IsSpelled answer
refusal_spelled calls.Nothing stat h = absurd (none_some h)
refusal_spelled (calls.Attributes r) stat h = of_attributes r (λ a is. absurd (granted r a stat is h))
refusal_spelled (calls.DirOp r) stat h = of_dir_op r (λ x is. absurd (granted r x stat is h))
refusal_spelled (calls.Target r) stat h =
    record {
      fits = outcome_fits path (λ target. target) r (λ t is. absurd (granted r t stat is h));
      cookies =
          tt;
    }
refusal_spelled (calls.Bytes r) stat h =
    record {
      fits =
          outcome_fits (pair fattr (opaque 8192)) data_value r (λ x is. absurd (granted r x stat is h));
      cookies = tt;
    }
refusal_spelled (calls.Status r) stat h = of_status r
refusal_spelled (calls.Entries r) stat h = of_entries r (λ p is. absurd (granted r p stat is h))
refusal_spelled (calls.Free r) stat h =
    record {
      fits =
          outcome_fits (pair word (pair word (pair word (pair word word)))) fs_stats_value r
          (λ x is. absurd (granted r x stat is h));
      cookies = tt;
    }

-- the attributes of a number have a spelling
attributes_spelled : (w : Files) → AreSpelled w → (n : ℕ) (a : Fattr) → AttributesOk w n a
    → IsSpelled (calls.Attributes (Ok a))
attributes_spelled w h n a o =
    of_attributes (Ok a) (λ b is. subst (λ (b : Fattr). Fits fattr (fattr_value b)) (ok_same is)
    (at_fits w h n a o))

-- so have a number's handle and attributes
handle_spelled : (w : Files) → AreSpelled w → (n : ℕ) (a : Fattr) → AttributesOk w n a
    → IsSpelled (calls.DirOp (Ok (handle_of w.fsid n, a)))
handle_spelled w h n a o = of_dir_op (Ok (handle_of w.fsid n, a)) (λ x is.
    subst (λ (x : List ℕ × Fattr). Fits (pair fhandle fattr) (pair_value x)) (ok_same is)
    (handle_fits w.fsid n, at_fits w h n a o))

-- a call that changes files is answered what has a spelling
of_change : (w : Files) (who : Caller) (now : Timeval) (call : Call) → only_reads call ≡ false
    → AreSpelled (call_does w who now call).1 → IsSpelled (call_does w who now call).0
of_change w who now =
    each_call w who now (λ call answer after. only_reads call ≡ false → AreSpelled after → IsSpelled answer)
    (record {
      reads = λ call answer only not h. absurd (both only not);
      refused = λ call answer stat is not h. refusal_spelled answer stat is;
      set_attributes = λ file s a after o at not h. attributes_spelled after h (number_for w file) a at;
      write = λ file offset new a after o at not h. attributes_spelled after h (number_for w file) a at;
      create = λ dir name s number a after o at not h. handle_spelled after h number a at;
      make_dir = λ dir name s number a after o at not h. handle_spelled after h number a at;
      symlink = λ dir name target s number after o not h. of_status (Ok tt);
      link = λ from dir name after o not h. of_status (Ok tt);
      remove = λ dir name after o not h. of_status (Ok tt);
      remove_dir = λ dir name after o not h. of_status (Ok tt);
      rename = λ from from_name to to_name after o not h. of_status (Ok tt);
    })
  where
    both : {b : Bool} → b ≡ true → b ≡ false → ⊥
    both p q = tf (sym p ∙ q)
      where
        tf : true ≡ false → ⊥
        tf h = cc

-- ---- calls that read

module _ (w : Files) (h : AreSpelled w) (who : Caller) where
  of_getattr : (file : List ℕ) → IsSpelled (calls.Attributes (getattr w file))
  of_getattr file =
      of_attributes (getattr w file)
      (λ a is. let o = getattr_ok w file a is in at_fits w h o.number a o.attributes)

  of_lookup : (dir name : List ℕ) → IsSpelled (calls.DirOp (lookup w who dir name))
  of_lookup dir name = of_dir_op (lookup w who dir name) (λ x is.
      let o = lookup_ok w who dir name x.0 x.1 is in
      (ap length o.answer ∙ handle_fits w.fsid o.number, at_fits w h o.number x.1 o.attributes))

  of_target : (n : ℕ) → IsSpelled (calls.Target (read_link w n))
  of_target n = record {
    fits = outcome_fits path (λ target. target) (read_link w n) (λ t is.
        let o = read_link_ok w n t is in
        let short : length t ≤ 1024 = subst IsBody o.answer (h.tree.files n o.file o.there).body in
        (omega (arith, short), short));
    cookies = tt;
  }

  of_bytes : (n offset count : ℕ) → IsSpelled (calls.Bytes (read w who n offset count))
  of_bytes n offset count = record {
    fits = outcome_fits (pair fattr (opaque 8192)) data_value (read w who n offset count) (λ x is.
        let o = read_ok w who n offset count x.0 x.1 is in
        let short = ap length o.answer in
        let long = length-take (min count 8192) (drop offset o.bytes) in (
          at_fits w h n x.0 (record { file = o.file; there = o.there; answer = o.attributes }),
          (omega (arith, short, long), omega (arith, short, long)),
        ));
    cookies = tt;
  }

  of_page : (n cookie count : ℕ) → IsSpelled (calls.Entries (read_dir w who n cookie count))
  of_page n cookie count = of_entries (read_dir w who n cookie count) (λ p is.
      let o = read_dir_ok w who n cookie count p is in
      subst (λ (p : Page). AllByRecursion EntryFits p.entries) (sym o.answer)
      (page_fits w h n o.file o.listing o.there (ap is_directory o.directory)
      (ap listing_in o.directory) cookie count))

  of_free : (n : ℕ) → IsSpelled (calls.Free (stat_fs w n))
  of_free n = record {
    fits = outcome_fits (pair word (pair word (pair word (pair word word)))) fs_stats_value (stat_fs w n)
        (λ x is.
        let f = bind_ok (file_of w n) _ x is in
        subst (λ (x : FsStats). Fits (pair word (pair word (pair word (pair word word)))) (fs_stats_value x))
        (ok_same f.2) (omega arith, (omega arith, (omega arith, (omega arith, omega arith)))));
    cookies = tt;
  }

-- ---- each call

nothing : IsSpelled calls.Nothing
nothing = record { fits = tt; cookies = tt }

-- the answer of any call, where the files before and after it are within their bounds
-- what a call is answered has a spelling, where the files after it have
pub of_call : (w : Files) (who : Caller) (now : Timeval) → AreSpelled w → (call : Call)
    → AreSpelled (call_does w who now call).1 → IsSpelled (call_does w who now call).0
of_call w who now h calls.Null after = nothing
of_call w who now h (calls.Getattr file) after = of_getattr w h who file
of_call w who now h calls.Root after = nothing
of_call w who now h (calls.Lookup dir name) after = of_lookup w h who dir name
of_call w who now h (calls.Readlink file) after = of_target w h who (number_for w file)
of_call w who now h (calls.Read file offset count) after = of_bytes w h who (number_for w file) offset count
of_call w who now h calls.Writecache after = nothing
of_call w who now h (calls.Readdir dir cookie count) after = of_page w h who (number_for w dir) cookie count
of_call w who now h (calls.Statfs file) after = of_free w h who (number_for w file)
of_call w who now h (calls.Setattr file s) after = of_change w who now (calls.Setattr file s) refl after
of_call w who now h (calls.Write file offset new) after =
    of_change w who now (calls.Write file offset new) refl after
of_call w who now h (calls.Create dir name s) after = of_change w who now (calls.Create dir name s) refl after
of_call w who now h (calls.Remove dir name) after = of_change w who now (calls.Remove dir name) refl after
of_call w who now h (calls.Rename from from_name to to_name) after =
    of_change w who now (calls.Rename from from_name to to_name) refl after
of_call w who now h (calls.Link from dir name) after =
    of_change w who now (calls.Link from dir name) refl after
of_call w who now h (calls.Symlink dir name target s) after =
    of_change w who now (calls.Symlink dir name target s) refl after
of_call w who now h (calls.Mkdir dir name s) after = of_change w who now (calls.Mkdir dir name s) refl after
of_call w who now h (calls.Rmdir dir name) after = of_change w who now (calls.Rmdir dir name) refl after
