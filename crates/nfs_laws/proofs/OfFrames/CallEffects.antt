-- A call that was not refused did to the files that it names what its procedure does.
-- Serves: calls_change_what_they_name (frames).
use Rattle.std.proofs.Common.{◌≡◌, ⊎_elim, ℕ, true, false, List, Some, None, refl, sym, ap, subst, ◌∙◌}
use Rattle.std.specs.Prelude.{◌==◌, length, if◌then◌else◌}
use Rattle.nfs_spec.specs.nfs_items.Timeval.{Timeval}
use Rattle.nfs_spec.specs.nfs_items.Caller.{Caller}
use Rattle.nfs_spec.specs.fs_spec.Files.{File, Files}
use Rattle.nfs_spec.specs.fs_spec.Trees.{IsFileTree}
use Rattle.nfs_spec.proofs.fs_spec.Walks.{none_some, some_same}
use Rattle.nfs_spec.specs.fs_spec.Changes.Edits.{with_changed_file}
use Rattle.nfs_spec.specs.Sattr.{GivenFields, given_fields}
use Rattle.nfs_spec.specs.Procedures.{with_bytes_written}
use Rattle.nfs_spec.specs.nfs_types.Calls as calls
use Rattle.nfs_spec.specs.nfs_types.Calls.{Call, Answer}
use Rattle.nfs_spec.specs.NfsCalls.{number_for, call_does}
use Rattle.nfs_laws.specs.Steps.Answers.{only_reads, refusal_in}
use Rattle.nfs_laws.specs.Changes.Changed.{Makes}
use Rattle.nfs_laws.specs.Steps.Granted.{SetOk, WriteOk, MakeOk, CreateOk, RenameOk}
use Rattle.nfs_laws.proofs.OfChanges.NamedFiles.{set_becomes, wrote_becomes, made_makes, linked_links}
use Rattle.nfs_laws.proofs.OfChanges.NamedFiles.{removed_unnames, directory_gone}
use Rattle.nfs_laws.proofs.OfChanges.BytesWritten.{set_bytes, wrote_bytes}
use Rattle.nfs_laws.proofs.OfChanges.RenamedFiles.{renamed_moves}
use Rattle.nfs_laws.specs.Frames.Done.{IsSetAt, IsWrittenAt, IsCreatedAt, IsMovedAt, Did}
use Rattle.nfs_laws.proofs.OfSteps.EachCall.{each_call}

module _ (w : Files) (who : Caller) (now : Timeval) (tree : IsFileTree w) where
  -- a call that only reads
  read_did : (call : Call) → only_reads call ≡ true → Did w who now call w
  read_did calls.Null h = refl
  read_did (calls.Getattr file) h = refl
  read_did (calls.Setattr file s) h = absurd cc
  read_did calls.Root h = refl
  read_did (calls.Lookup dir name) h = refl
  read_did (calls.Readlink file) h = refl
  read_did (calls.Read file offset count) h = refl
  read_did calls.Writecache h = refl
  read_did (calls.Write file offset new) h = absurd cc
  read_did (calls.Create dir name s) h = absurd cc
  read_did (calls.Remove dir name) h = absurd cc
  read_did (calls.Rename from from_name to to_name) h = absurd cc
  read_did (calls.Link from dir name) h = absurd cc
  read_did (calls.Symlink dir name target s) h = absurd cc
  read_did (calls.Mkdir dir name s) h = absurd cc
  read_did (calls.Rmdir dir name) h = absurd cc
  read_did (calls.Readdir dir cookie count) h = refl
  read_did (calls.Statfs file) h = refl

  abbrev DidAfter : Call → Answer → Files → Type 0
  DidAfter call answer w' = refusal_in answer ≡ None → Did w who now call w'

  set_at : (n : ℕ) (a : GivenFields) (w' : Files) → SetOk w who now n a w' → IsSetAt now w w' n a
  set_at n a w' o =
      record {
        attributes = set_becomes w who now n a w' o;
        bytes =
            λ size given. set_bytes w who now n size a given w' o;
      }

  written_at : (n offset : ℕ) (new : List ℕ) (w' : Files) → WriteOk w who now n offset new w'
      → IsWrittenAt now w w' n offset new
  written_at n offset new w' o = record {
    rest = λ some. wrote_becomes w who now n offset new some w' o;
    bytes = λ some. wrote_bytes w who now n offset new some w' o;
    none = λ e. o.effect ∙ ap (λ bytes. if length bytes == 0 then w else with_changed_file w n
        (with_bytes_written now offset new o.old)) e;
  }

  new_at : (dir : ℕ) (name : List ℕ) (f : File) (number : ℕ) (w' : Files)
      → MakeOk w who now dir name f number w' → Makes now w w' dir name w.next f
  new_at dir name f number w' o =
      subst (λ k. Makes now w w' dir name k f) o.is_next (made_makes w who now tree dir name f number w' o)

  created_at : (dir : ℕ) (name : List ℕ) (a : GivenFields) (number : ℕ) (w' : Files)
      → CreateOk w who now dir name a number w' → IsCreatedAt who now w w' dir name a
  created_at dir name a number w' o = record {
    over = λ n c at. set_at n a w' (o.over n c at).set;
    fresh = λ free. new_at dir name _ number w' (o.fresh free).make;
  }

  moved_at : (from : ℕ) (from_name : List ℕ) (to : ℕ) (to_name : List ℕ) (w' : Files)
      → RenameOk w who now from from_name to to_name w' → IsMovedAt now w w' from from_name to to_name
  moved_at from from_name to to_name w' o = record {
    same = λ one. ⊎_elim
        (λ r. r.1)
        (λ m. absurd (m.other one.2 (one.4 ∙ ap (λ k. Some (k, one.2))
        (ap (λ (e : ℕ × ℕ). e.0) (some_same (sym one.3 ∙ o.is_named))))))
        o.outcome;
    moves = λ other. ⊎_elim
        (λ r. absurd (other r.0))
        (λ m. renamed_moves w who now tree from from_name to to_name w' o m)
        o.outcome;
  }

  -- by cases of the call
  pub did : (call : Call) → DidAfter call (call_does w who now call).0 (call_does w who now call).1
  did = each_call w who now DidAfter (record {
    reads = λ call answer only not. read_did call only;
    refused = λ call answer stat says not. absurd (none_some (sym not ∙ says));
    set_attributes = λ file s _ after o _ not. set_at (number_for w file) (given_fields now s) after o;
    write = λ file offset new _ after o _ not. written_at (number_for w file) offset new after o;
    create = λ dir name s number _ after o _ not. created_at (number_for w dir) name
        (given_fields now s) number after o;
    make_dir = λ dir name s number _ after o _ not. new_at (number_for w dir) name _ number after o;
    symlink = λ dir name target s number after o not. new_at (number_for w dir) name _ number after o;
    link = λ from dir name after o not. linked_links w who now (number_for w from)
        (number_for w dir) name after o;
    remove = λ dir name after o not. removed_unnames w who now tree false (number_for w dir) name after o;
    remove_dir = λ dir name after o not. record {
      unnamed = removed_unnames w who now tree true (number_for w dir) name after o;
      gone = λ n c at. directory_gone w who now tree (number_for w dir) name n c at after o;
    };
    rename = λ from from_name to to_name after o not. moved_at (number_for w from) from_name
        (number_for w to) to_name after o;
  })
