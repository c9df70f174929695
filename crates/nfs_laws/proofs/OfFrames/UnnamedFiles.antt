-- What every call leaves of the node, of the next number, and of the files that it does not name.
-- Serves: calls_keep_the_files_they_do_not_name, files_stay_what_they_are (frames);
-- answers_have_a_spelling (sizes).
use Rattle.std.proofs.Common.{◌≡◌, ◌≢◌, ℕ, ◌+◌, List, [], ◌∷◌, ◌++◌, Option, Some, None, option_map, ⊎_elim}
use Rattle.std.proofs.Common.{refl, sym, ap, subst, ◌∙◌, arith}
use Rattle.std.specs.Prelude.{◌&&◌, is_none, if◌then◌else◌, ◌==◌, true, false, Bool, length}
use Rattle.std.specs.Option.{option_map_or}
use Rattle.nfs_spec.specs.nfs_items.Timeval.{Timeval}
use Rattle.nfs_spec.specs.nfs_items.Caller.{Caller}
use Rattle.nfs_spec.specs.nfs_items.declared.stat.Stat.{Stat}
use Rattle.nfs_spec.specs.fs_spec.Files.{File, Files, file_at, directory_entries}
use Rattle.nfs_spec.proofs.fs_spec.Walks.{none_some, some_same}
use Rattle.nfs_spec.specs.fs_spec.Changes.Edits.{with_changed_file}
use Rattle.nfs_spec.proofs.fs_spec.OfChanges.Finite.{changed_other}
use Rattle.nfs_spec.specs.Sattr.{GivenFields, given_fields}
use Rattle.nfs_spec.specs.Changes.{apply_fields}
use Rattle.nfs_spec.specs.Procedures.{with_bytes_written}
use Rattle.nfs_spec.specs.nfs_types.Calls as calls
use Rattle.nfs_spec.specs.nfs_types.Calls.{Call, Answer}
use Rattle.nfs_spec.specs.NfsCalls.{number_for, call_does}
use Rattle.nfs_laws.specs.Steps.Answers.{only_reads, refusal_in}
use Rattle.nfs_laws.specs.Frames.Named.{IsNoneOf, files_at_name, files_named_by, makes_file, files_made}
use Rattle.nfs_laws.specs.Steps.Granted.{MakeOk, CreateOk, RenameOk}
use Rattle.nfs_laws.proofs.OfSteps.EachCall.{each_call}
use Rattle.nfs_laws.proofs.OfChanges.OtherFiles.{made_other, linked_other, removed_other, moved_other}

-- a call that only reads makes no file, nor does one that is refused
reader_makes_none : (w : Files) (call : Call) → only_reads call ≡ true → makes_file w call ≡ false
reader_makes_none w calls.Null h = refl
reader_makes_none w (calls.Getattr file) h = refl
reader_makes_none w (calls.Setattr file s) h = absurd cc
reader_makes_none w calls.Root h = refl
reader_makes_none w (calls.Lookup dir name) h = refl
reader_makes_none w (calls.Readlink file) h = refl
reader_makes_none w (calls.Read file offset count) h = refl
reader_makes_none w calls.Writecache h = refl
reader_makes_none w (calls.Write file offset new) h = absurd cc
reader_makes_none w (calls.Create dir name s) h = absurd cc
reader_makes_none w (calls.Remove dir name) h = absurd cc
reader_makes_none w (calls.Rename from from_name to to_name) h = absurd cc
reader_makes_none w (calls.Link from dir name) h = absurd cc
reader_makes_none w (calls.Symlink dir name target s) h = absurd cc
reader_makes_none w (calls.Mkdir dir name s) h = absurd cc
reader_makes_none w (calls.Rmdir dir name) h = absurd cc
reader_makes_none w (calls.Readdir dir cookie count) h = refl
reader_makes_none w (calls.Statfs file) h = refl

refused_makes_none : (w : Files) (call : Call) (answer : Answer) (stat : Stat) → refusal_in answer ≡ Some stat
    → files_made w call answer ≡ 0
refused_makes_none w call answer stat h =
    ap (λ o. if makes_file w call && is_none o then 1 else 0) h ∙ by (makes_file w call)
  where
    by : (b : Bool) → ◌≡◌ {A = ℕ} (if b && false then 1 else 0) 0
    by true = refl
    by false = refl

-- the node's number stays, and the next number is this
pub record IsHead (w w' : Files) (next : ℕ) : Type 0 where
  -- the node's number is as it was
  pub node : w'.fsid ≡ w.fsid
  -- the next number is this
  pub next_is : w'.next ≡ next

module _ (w : Files) (who : Caller) (now : Timeval) where
  -- ---- the node's number and the next number

  abbrev HeadAfter : Call → Answer → Files → Type 0
  HeadAfter call answer w' = IsHead w w' (w.next + files_made w call answer)

  -- files with the same next number, and with the one after it
  head_same : (v w' : Files) → w' ≡ v → v.fsid ≡ w.fsid → v.next ≡ w.next → IsHead w w' (w.next + 0)
  head_same v w' is node next =
      record {
        node = ap (λ (u : Files). u.fsid) is ∙ node;
        next_is =
            ap (λ (u : Files). u.next) is ∙ omega (arith, next);
      }

  head_new : (dir : ℕ) (name : List ℕ) (f : File) (number : ℕ) (w' : Files)
      → MakeOk w who now dir name f number w' → IsHead w w' (w.next + 1)
  head_new dir name f number w' o =
      record { node = ap (λ (u : Files). u.fsid) o.effect; next_is = ap (λ (u : Files). u.next) o.effect }

  head_written : (n offset : ℕ) (new old : List ℕ) (b : Bool) (w' : Files)
      → w' ≡ (if b then w else with_changed_file w n (with_bytes_written now offset new old))
      → IsHead w w' (w.next + 0)
  head_written n offset new old true w' is = head_same w w' is refl refl
  head_written n offset new old false w' is = head_same _ w' is refl refl

  head_created : (dir : ℕ) (name : List ℕ) (a : GivenFields) (number : ℕ) (w' : Files)
      (entry : Option (ℕ × ℕ)) → directory_entries w dir name ≡ entry
      → CreateOk w who now dir name a number w'
      → IsHead w w' (w.next + (if is_none (directory_entries w dir name) && true then 1 else 0))
  head_created dir name a number w' None is o =
      subst (λ (p : Option (ℕ × ℕ)). IsHead w w' (w.next + (if is_none p && true then 1 else 0))) (sym is)
      (head_new dir name _ number w' (o.fresh is).make)
  head_created dir name a number w' (Some e) is o =
      subst (λ (p : Option (ℕ × ℕ)). IsHead w w' (w.next + (if is_none p && true then 1 else 0))) (sym is)
      (head_same _ w' (o.over e.0 e.1 is).set.effect refl refl)

  head_unmade : (call : Call) (answer : Answer) → files_made w call answer ≡ 0 → HeadAfter call answer w
  head_unmade call answer none = record { node = refl; next_is = omega (arith, none) }

  -- the node's number stays, and the next number but where a file was made
  pub heads : (call : Call) → HeadAfter call (call_does w who now call).0 (call_does w who now call).1
  heads = each_call w who now HeadAfter (record {
    reads = λ call answer only. head_unmade call answer
        (ap (λ b. if b && is_none (refusal_in answer) then 1 else 0) (reader_makes_none w call only));
    refused = λ call answer stat says. head_unmade call answer (refused_makes_none w call answer stat says);
    set_attributes = λ file s _ after o _. head_same _ after o.effect refl refl;
    write = λ file offset new _ after o _. head_written (number_for w file) offset new o.old
        (length new == 0) after o.effect;
    create = λ dir name s number _ after o _. head_created (number_for w dir) name
        (given_fields now s) number after (directory_entries w (number_for w dir) name) refl o;
    make_dir = λ dir name s number _ after o _. head_new (number_for w dir) name _ number after o;
    symlink = λ dir name target s number after o. head_new (number_for w dir) name _ number after o;
    link = λ from dir name after o. head_same _ after o.effect refl refl;
    remove = λ dir name after o. head_same _ after o.effect refl refl;
    remove_dir = λ dir name after o. head_same _ after o.effect refl refl;
    rename = λ from from_name to to_name after o. ⊎_elim (λ same. head_same w after same.1 refl refl)
        (λ m. head_same _ after m.effect refl refl) o.outcome;
  })

  -- ---- the files that are none of those named

  abbrev OthersAfter : Call → Answer → Files → Type 0
  OthersAfter call answer w' = (n : ℕ) → IsNoneOf n (files_named_by w call) → file_at w' n ≡ file_at w n

  wrote_other : (k offset : ℕ) (new old : List ℕ) (b : Bool) (n : ℕ) → n ≢ k
      → file_at (if b then w else with_changed_file w k (with_bytes_written now offset new old)) n
      ≡ file_at w n
  wrote_other k offset new old true n ne = refl
  wrote_other k offset new old false n ne = changed_other w k (with_bytes_written now offset new old) n ne

  -- what is found at a name is among what it names
  pub at_name : (dir : ℕ) (name : List ℕ) (k c n : ℕ) → directory_entries w dir name ≡ Some (k, c)
      → IsNoneOf n (files_at_name w dir name) → n ≢ k
  at_name dir name k c n is h =
      (subst (λ (o : Option (ℕ × ℕ)). IsNoneOf n (option_map_or (λ e. e.0 ∷ []) o [])) is h).0

  at_target : (dir : ℕ) (name : List ℕ) (n : ℕ) → IsNoneOf n (files_at_name w dir name) → (k : ℕ)
      → option_map (λ e. e.0) (directory_entries w dir name) ≡ Some k → n ≢ k
  at_target dir name n h k is = by (directory_entries w dir name) refl is
    where
      by : (o : Option (ℕ × ℕ)) → directory_entries w dir name ≡ o → option_map (λ e. e.0) o ≡ Some k → n ≢ k
      by None e g = absurd (none_some g)
      by (Some p) e g = subst (λ m. n ≢ m) (some_same g) (at_name dir name p.0 p.1 n e h)

  none_of_both : (n : ℕ) (a b : List ℕ) → IsNoneOf n (a ++ b) → IsNoneOf n a × IsNoneOf n b
  none_of_both n [] b h = (tt, h)
  none_of_both n (m ∷ a) b h = let rest = none_of_both n a b h.1 in ((h.0, rest.0), rest.1)

  new_other : (dir : ℕ) (name : List ℕ) (f : File) (number : ℕ) (w' : Files)
      → MakeOk w who now dir name f number w' → (n : ℕ) → n ≢ dir → n ≢ w.next → file_at w' n ≡ file_at w n
  new_other dir name f number w' o n nd nn =
      ap (λ v. file_at v n) o.effect ∙ made_other now w dir name f n nd nn

  created_other : (dir : ℕ) (name : List ℕ) (a : GivenFields) (number : ℕ) (w' : Files)
      (entry : Option (ℕ × ℕ)) → directory_entries w dir name ≡ entry
      → CreateOk w who now dir name a number w'
      → (n : ℕ) → IsNoneOf n (option_map_or (λ e. e.0 ∷ []) (directory_entries w dir name)
      (dir ∷ w.next ∷ [])) → file_at w' n ≡ file_at w n
  created_other dir name a number w' None is o n ns =
      let own = subst (λ (p : Option (ℕ × ℕ)). IsNoneOf n
      (option_map_or (λ e. e.0 ∷ []) p (dir ∷ w.next ∷ []))) is ns in
      new_other dir name _ number w' (o.fresh is).make n own.0 own.1.0
  created_other dir name a number w' (Some e) is o n ns =
      let own = subst (λ (p : Option (ℕ × ℕ)). IsNoneOf n
      (option_map_or (λ e. e.0 ∷ []) p (dir ∷ w.next ∷ []))) is ns in
      ap (λ v. file_at v n) (o.over e.0 e.1 is).set.effect ∙ changed_other w e.0 (apply_fields now a) n own.0

  renamed_other : (from : ℕ) (from_name : List ℕ) (to : ℕ) (to_name : List ℕ) (w' : Files)
      → RenameOk w who now from from_name to to_name w'
      → (n : ℕ) → IsNoneOf n (from ∷ to ∷ files_at_name w from from_name ++ files_at_name w to to_name)
      → file_at w' n ≡ file_at w n
  renamed_other from from_name to to_name w' o n ns =
      let both = none_of_both n (files_at_name w from from_name) (files_at_name w to to_name) ns.1.1 in
      ⊎_elim
      (λ same. ap (λ v. file_at v n) same.1)
      (λ m. ap (λ v. file_at v n) m.effect
      ∙ moved_other now w o.number from from_name to to_name
      (option_map (λ e. e.0) (directory_entries w to to_name)) n ns.0 ns.1.0
      (at_name from from_name o.number o.cookie n o.is_named both.0) (at_target to to_name n both.1))
      o.outcome

  -- a number that a call does not name has the file that it had
  pub others : (call : Call) → OthersAfter call (call_does w who now call).0 (call_does w who now call).1
  others = each_call w who now OthersAfter (record {
    reads = λ call answer only n ns. refl;
    refused = λ call answer stat says n ns. refl;
    set_attributes =
        λ file s _ after o _ n ns. ap (λ v. file_at v n) o.effect
        ∙ changed_other w (number_for w file) (apply_fields now (given_fields now s)) n ns.0;
    write = λ file offset new _ after o _ n ns. ap (λ v. file_at v n) o.effect
        ∙ wrote_other (number_for w file) offset new o.old (length new == 0) n ns.0;
    create = λ dir name s number _ after o _ n ns. created_other (number_for w dir) name
        (given_fields now s) number after (directory_entries w (number_for w dir) name) refl o n ns;
    make_dir = λ dir name s number _ after o _ n ns. new_other
        (number_for w dir) name _ number after o n ns.0 ns.1.0;
    symlink = λ dir name target s number after o n ns. new_other
        (number_for w dir) name _ number after o n ns.0 ns.1.0;
    link = λ from dir name after o n ns. ap (λ v. file_at v n) o.effect
        ∙ linked_other now w (number_for w from) (number_for w dir) name n ns.0 ns.1.0;
    remove = λ dir name after o n ns. ap (λ v. file_at v n) o.effect
        ∙ removed_other now w (number_for w dir) name o.number n ns.0
        (at_name (number_for w dir) name o.number o.cookie n o.is_named ns.1);
    remove_dir =
        λ dir name after o n ns. ap (λ v. file_at v n) o.effect
        ∙ removed_other now w (number_for w dir) name o.number n ns.0
        (at_name (number_for w dir) name o.number o.cookie n o.is_named ns.1);
    rename = λ from from_name to to_name after o n ns. renamed_other (number_for w from) from_name
        (number_for w to) to_name after o n ns;
  })
