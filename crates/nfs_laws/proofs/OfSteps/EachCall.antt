-- What is to be shown of each call, so that it holds of every call: of those that only read and of refusals
-- with the files as they were, and of each procedure that was granted with what follows from its Ok.
-- Serves: trees_stay_trees, nothing_is_given_again, no_limit_is_passed and refusals_leave_files;
-- the laws of `frames`; answers_have_a_spelling (sizes).
use Rattle.std.proofs.Common.{◌≡◌, ℕ, true, List, Some, Result, Ok, Err, refl, sym, ap, subst, ◌∙◌}
use Rattle.nfs_spec.specs.nfs_items.Timeval.{Timeval}
use Rattle.nfs_spec.specs.nfs_items.Caller.{Caller}
use Rattle.nfs_spec.specs.nfs_items.Handle.{handle_of}
use Rattle.nfs_spec.specs.nfs_items.declared.attributes.Fattr.{Fattr}
use Rattle.nfs_spec.specs.nfs_items.declared.stat.Stat.{Stat}
use Rattle.nfs_spec.specs.fs_spec.Files.{Files}
use Rattle.nfs_spec.specs.nfs_items.declared.sattr.Sattr.{Sattr}
use Rattle.nfs_spec.specs.Sattr.{given_fields}
use Rattle.nfs_spec.specs.Changes.{Effect}
use Rattle.nfs_spec.specs.Effects.{attributes_at}
use Rattle.nfs_spec.specs.Procedures as tree
use Rattle.nfs_spec.specs.nfs_types.Calls as calls
use Rattle.nfs_spec.specs.nfs_types.Calls.{Call, Answer}
use Rattle.nfs_spec.specs.NfsCalls.{answer_and_files, with_attributes, with_handle, without_number}
use Rattle.nfs_spec.specs.NfsCalls.{number_for, call_does}
use Rattle.nfs_laws.specs.Steps.Answers.{refusal_in, only_reads}
use Rattle.nfs_laws.specs.Steps.Granted.{SetOk, WriteOk, CreateOk, MakeDirOk, SymlinkOk, LinkOk, RemoveOk}
use Rattle.nfs_laws.specs.Steps.Granted.{RemoveDirOk, RenameOk}
use Rattle.nfs_laws.specs.Steps.Read.{AttributesOk}
use Rattle.nfs_laws.proofs.OfSteps.Steps.{bind_ok, ok_same}
use Rattle.nfs_laws.proofs.OfSteps.Setting.{set_ok, write_ok}
use Rattle.nfs_laws.proofs.OfSteps.Making.{create_ok, make_dir_ok, symlink_ok, link_ok}
use Rattle.nfs_laws.proofs.OfSteps.Removing.{remove_ok, remove_dir_ok}
use Rattle.nfs_laws.proofs.OfSteps.Renaming.{rename_ok}
use Rattle.nfs_laws.proofs.OfSteps.Reading.{attributes_ok}

-- a fact of a call, its answer and the files after it, shown of each kind of call
pub record EachCall (w : Files) (who : Caller) (now : Timeval) (P : Call → Answer → Files → Type 0)
    : Type 0 where
  -- a call that only reads
  pub reads : (call : Call) (answer : Answer) → only_reads call ≡ true → P call answer w
  -- a call that was refused
  pub refused : (call : Call) (answer : Answer) (stat : Stat) → refusal_in answer ≡ Some stat
      → P call answer w
  -- SETATTR, with the attributes after it
  pub set_attributes : (file : List ℕ) (s : Sattr) (a : Fattr) (after : Files)
      → SetOk w who now (number_for w file) (given_fields now s) after
      → AttributesOk after (number_for w file) a → P (calls.Setattr file s) (calls.Attributes (Ok a)) after
  -- WRITE, with the attributes after it
  pub write : (file : List ℕ) (offset : ℕ) (new : List ℕ) (a : Fattr) (after : Files)
      → WriteOk w who now (number_for w file) offset new after → AttributesOk after (number_for w file) a
      → P (calls.Write file offset new) (calls.Attributes (Ok a)) after
  -- CREATE, with the attributes after it
  pub create : (dir name : List ℕ) (s : Sattr) (number : ℕ) (a : Fattr) (after : Files)
      → CreateOk w who now (number_for w dir) name (given_fields now s) number after
      → AttributesOk after number a
      → P (calls.Create dir name s) (calls.DirOp (Ok (handle_of after.fsid number, a))) after
  -- MKDIR, with the attributes after it
  pub make_dir : (dir name : List ℕ) (s : Sattr) (number : ℕ) (a : Fattr) (after : Files)
      → MakeDirOk w who now (number_for w dir) name (given_fields now s) number after
      → AttributesOk after number a
      → P (calls.Mkdir dir name s) (calls.DirOp (Ok (handle_of after.fsid number, a))) after
  -- SYMLINK
  pub symlink : (dir name target : List ℕ) (s : Sattr) (number : ℕ) (after : Files)
      → SymlinkOk w who now (number_for w dir) name target number after
      → P (calls.Symlink dir name target s) (calls.Status (Ok tt)) after
  -- LINK
  pub link : (from dir name : List ℕ) (after : Files)
      → LinkOk w who now (number_for w from) (number_for w dir) name after
      → P (calls.Link from dir name) (calls.Status (Ok tt)) after
  -- REMOVE
  pub remove : (dir name : List ℕ) (after : Files) → RemoveOk w who now (number_for w dir) name after
      → P (calls.Remove dir name) (calls.Status (Ok tt)) after
  -- RMDIR
  pub remove_dir : (dir name : List ℕ) (after : Files) → RemoveDirOk w who now (number_for w dir) name after
      → P (calls.Rmdir dir name) (calls.Status (Ok tt)) after
  -- RENAME
  pub rename : (from from_name to to_name : List ℕ) (after : Files)
      → RenameOk w who now (number_for w from) from_name (number_for w to) to_name after
      → P (calls.Rename from from_name to to_name) (calls.Status (Ok tt)) after

-- ---- effects with another answer

module _ (P : Answer → Files → Type 0) (w : Files) where
  -- an effect was refused, and the files are as they were, or granted
  of_effect : {A : Type 0} (say : Result A Stat → Answer) (e : Effect A) → ((s : Stat) → P (say (Err s)) w)
      → ((x : A) (after : Files) → e ≡ Ok (x, after) → P (say (Ok x)) after)
      → P (answer_and_files say w e).0 (answer_and_files say w e).1
  of_effect say (Ok x) refused granted = granted x.0 x.1 refl
  of_effect say (Err s) refused granted = refused s

-- an effect whose answer is the attributes after it
attributes_granted : (n : ℕ) (e : Effect (Unit {0})) (a : Fattr) (after : Files)
    → with_attributes n e ≡ Ok (a, after) → (e ≡ Ok (tt, after)) × AttributesOk after n a
attributes_granted n e a after h =
    let p = bind_ok e _ (a, after) h in
    let q = bind_ok (attributes_at p.0.1 n) _ (a, after) p.2 in
    let same = ok_same q.2 in (
      p.1 ∙ ap (λ (x : Fattr × Files). Ok (tt, x.1)) same,
      attributes_ok after n a (subst (λ (x : Fattr × Files). attributes_at x.1 n ≡ Ok x.0) same q.1),
    )

-- an effect whose answer is a file handle and the attributes after it
record IsHandled (e : Effect ℕ) (handle : List ℕ) (a : Fattr) (after : Files) : Type 0 where
  number : ℕ
  granted : e ≡ Ok (number, after)
  attributes : AttributesOk after number a
  is_named : handle_of after.fsid number ≡ handle

handle_granted : (e : Effect ℕ) (handle : List ℕ) (a : Fattr) (after : Files)
    → with_handle e ≡ Ok ((handle, a), after) → IsHandled e handle a after
handle_granted e handle a after h =
    let p = bind_ok e _ ((handle, a), after) h in
    let q = bind_ok (attributes_at p.0.1 p.0.0) (given p.0) ((handle, a), after) p.2 in
    let same = ok_same q.2 in
    record {
      number = p.0.0;
      granted = p.1 ∙ ap (λ (x : (List ℕ × Fattr) × Files). Ok (p.0.0, x.1)) same;
      attributes =
          attributes_ok after p.0.0 a
          (subst (λ (x : (List ℕ × Fattr) × Files). attributes_at x.1 p.0.0 ≡ Ok x.0.1) same q.1);
      is_named = sym (ap (λ (x : (List ℕ × Fattr) × Files). handle_of x.1.fsid p.0.0) same)
          ∙ ap (λ (x : (List ℕ × Fattr) × Files). x.0.0) same;
    }
  where
    given : ℕ × Files → Fattr → Effect (List ℕ × Fattr)
    given x a = Ok ((handle_of x.1.fsid x.0, a), x.1)

-- an effect whose number is left out
number_granted : (e : Effect ℕ) (after : Files) → without_number e ≡ Ok (tt, after)
    → (number : ℕ) × (e ≡ Ok (number, after))
number_granted e after h =
    let p = bind_ok e _ (tt, after) h in
    (p.0.0, p.1 ∙ ap (λ (x : Unit {0} × Files). Ok (p.0.0, x.1)) (ok_same p.2))

-- ---- every call

module _ (w : Files) (who : Caller) (now : Timeval) (P : Call → Answer → Files → Type 0)
    (each : EachCall w who now P) where
  -- a granted effect with a file handle
  handled : (call : Call) (e : Effect ℕ) (handle : List ℕ) (a : Fattr) (after : Files)
      → with_handle e ≡ Ok ((handle, a), after)
      → ((number : ℕ) → e ≡ Ok (number, after) → AttributesOk after number a
      → P call (calls.DirOp (Ok (handle_of after.fsid number, a))) after)
      → P call (calls.DirOp (Ok (handle, a))) after
  handled call e handle a after h says =
      let g = handle_granted e handle a after h in
      subst (λ (b : List ℕ). P call (calls.DirOp (Ok (b, a))) after) g.is_named
      (says g.number g.granted g.attributes)

  -- the fact holds of every call
  pub each_call : (call : Call) → P call (call_does w who now call).0 (call_does w who now call).1
  each_call calls.Null = each.reads calls.Null calls.Nothing refl
  each_call (calls.Getattr file) = each.reads (calls.Getattr file) _ refl
  each_call calls.Root = each.reads calls.Root calls.Nothing refl
  each_call (calls.Lookup dir name) = each.reads (calls.Lookup dir name) _ refl
  each_call (calls.Readlink file) = each.reads (calls.Readlink file) _ refl
  each_call (calls.Read file offset count) = each.reads (calls.Read file offset count) _ refl
  each_call calls.Writecache = each.reads calls.Writecache calls.Nothing refl
  each_call (calls.Readdir dir cookie count) = each.reads (calls.Readdir dir cookie count) _ refl
  each_call (calls.Statfs file) = each.reads (calls.Statfs file) _ refl
  each_call (calls.Setattr file s) =
      let n = number_for w file in
      let call = calls.Setattr file s in
      let e = tree.set_attributes w who now n (given_fields now s) in
      of_effect (P call) w calls.Attributes (with_attributes n e)
      (λ stat. each.refused call (calls.Attributes (Err stat)) stat refl)
      (λ a after h. let g = attributes_granted n e a after h in
      each.set_attributes file s a after (set_ok w who now n (given_fields now s) after g.0) g.1)
  each_call (calls.Write file offset new) =
      let n = number_for w file in
      let call = calls.Write file offset new in
      let e = tree.write w who now n offset new in
      of_effect (P call) w calls.Attributes (with_attributes n e)
      (λ stat. each.refused call (calls.Attributes (Err stat)) stat refl)
      (λ a after h. let g = attributes_granted n e a after h in
      each.write file offset new a after (write_ok w who now n offset new after g.0) g.1)
  each_call (calls.Create dir name s) =
      let d = number_for w dir in
      let call = calls.Create dir name s in
      let e = tree.create w who now d name (given_fields now s) in
      of_effect (P call) w calls.DirOp (with_handle e)
      (λ stat. each.refused call (calls.DirOp (Err stat)) stat refl)
      (λ x after h. handled call e x.0 x.1 after h
      (λ number k. each.create dir name s number x.1 after
      (create_ok w who now d name (given_fields now s) number after k)))
  each_call (calls.Mkdir dir name s) =
      let d = number_for w dir in
      let call = calls.Mkdir dir name s in
      let e = tree.make_dir w who now d name (given_fields now s) in
      of_effect (P call) w calls.DirOp (with_handle e)
      (λ stat. each.refused call (calls.DirOp (Err stat)) stat refl)
      (λ x after h. handled call e x.0 x.1 after h
      (λ number k. each.make_dir dir name s number x.1 after
      (make_dir_ok w who now d name (given_fields now s) number after k)))
  each_call (calls.Symlink dir name target s) =
      let d = number_for w dir in
      let call = calls.Symlink dir name target s in
      let e = tree.symlink w who now d name target in
      of_effect (P call) w calls.Status (without_number e)
      (λ stat. each.refused call (calls.Status (Err stat)) stat refl)
      (λ u after h. let g = number_granted e after h in
      each.symlink dir name target s g.0 after (symlink_ok w who now d name target g.0 after g.1))
  each_call (calls.Link from dir name) =
      let call = calls.Link from dir name in
      of_effect (P call) w calls.Status _ (λ stat. each.refused call (calls.Status (Err stat)) stat refl)
      (λ u after h. each.link from dir name after
      (link_ok w who now (number_for w from) (number_for w dir) name after h))
  each_call (calls.Remove dir name) =
      let call = calls.Remove dir name in
      of_effect (P call) w calls.Status _ (λ stat. each.refused call (calls.Status (Err stat)) stat refl)
      (λ u after h. each.remove dir name after (remove_ok w who now (number_for w dir) name after h))
  each_call (calls.Rmdir dir name) =
      let call = calls.Rmdir dir name in
      of_effect (P call) w calls.Status _ (λ stat. each.refused call (calls.Status (Err stat)) stat refl)
      (λ u after h. each.remove_dir dir name after (remove_dir_ok w who now (number_for w dir) name after h))
  each_call (calls.Rename from from_name to to_name) =
      let call = calls.Rename from from_name to to_name in
      of_effect (P call) w calls.Status _ (λ stat. each.refused call (calls.Status (Err stat)) stat refl)
      (λ u after h. each.rename from from_name to to_name after
      (rename_ok w who now (number_for w from) from_name (number_for w to) to_name after h))
