-- Every call leaves a tree a tree, gives numbers and cookies anew and passes no limit; one that is refused
-- leaves the files.
-- Serves: trees_stay_trees, nothing_is_given_again, no_limit_is_passed and refusals_leave_files;
-- runs_keep_a_tree_within_its_limits (frames); answers_have_a_spelling (sizes).
use Rattle.std.proofs.Common.{◌≡◌, ⊎_elim, ℕ, ◌≤◌, true, false, List, length, Some, refl, sym, subst}
use Rattle.nfs_spec.specs.nfs_items.Timeval.{Timeval}
use Rattle.nfs_spec.specs.nfs_items.Caller.{Caller}
use Rattle.nfs_spec.specs.nfs_items.declared.stat.Stat.{Stat}
use Rattle.nfs_spec.specs.fs_spec.Files.{Files}
use Rattle.nfs_spec.specs.fs_spec.Trees.{IsTime, IsFileTree}
use Rattle.nfs_spec.proofs.fs_spec.Walks.{none_some}
use Rattle.nfs_spec.specs.Sattr.{given_fields}
use Rattle.nfs_spec.specs.nfs_types.Calls.{Call}
use Rattle.nfs_spec.specs.NfsCalls.{number_for, call_does}
use Rattle.nfs_laws.specs.Steps.Answers.{refusal_in}
use Rattle.nfs_laws.specs.Steps.Granted.{RenameOk, new_directory, new_link}
use Rattle.nfs_laws.proofs.OfSteps.EachCall.{each_call}
use Rattle.nfs_laws.specs.Trees.Anew.{Follows}
use Rattle.nfs_laws.proofs.OfTrees.Making.{make_follows, link_follows}
use Rattle.nfs_laws.proofs.OfTrees.Removing.{remove_follows}
use Rattle.nfs_laws.proofs.OfTrees.Renaming.{renames_follows}
use Rattle.nfs_laws.specs.Laws.{IsBounded}
use Rattle.nfs_laws.proofs.FilesFit.{given_are_valid, directory_fits, link_fits}
use Rattle.nfs_laws.proofs.Setting.{unchanged, set_follows, write_follows, create_follows}

module _ (now : Timeval) (time : IsTime now) (w : Files) (tree : IsFileTree w) (who : Caller) where
  rename_follows : (from : ℕ) (from_name : List ℕ) (to : ℕ) (to_name : List ℕ) → length to_name ≤ 255
      → (after : Files) → RenameOk w who now from from_name to to_name after → Follows w after
  rename_follows from from_name to to_name bound after o = ⊎_elim
      (λ same. subst (Follows w) (sym same.1) (unchanged w tree))
      (λ m. renames_follows now time w tree who from from_name to to_name after o m bound)
      o.outcome

  -- the files after a call follow those before it
  pub stays : (call : Call) → IsBounded call → Follows w (call_does w who now call).1
  stays = each_call w who now (λ call answer after. IsBounded call → Follows w after) (record {
    reads = λ call answer only bound. unchanged w tree;
    refused = λ call answer stat says bound. unchanged w tree;
    set_attributes =
        λ file s a after o _ bound. set_follows now time w tree who (number_for w file) (given_fields now s)
        (given_are_valid now s time) after o;
    write = λ file offset new a after o _ bound. write_follows now time w tree who
        (number_for w file) offset new after o;
    create = λ dir name s number a after o _ bound. create_follows now time w tree who
        (number_for w dir) name bound (given_fields now s) (given_are_valid now s time) number after o;
    make_dir = λ dir name s number a after o _ bound.
        make_follows now time w tree who (number_for w dir) name bound
        (new_directory who now (given_fields now s)) refl
        (directory_fits who now time (given_fields now s) (given_are_valid now s time)) number after o;
    symlink = λ dir name target s number after o bound.
        make_follows now time w tree who (number_for w dir) name bound.0 (new_link who now target) refl
        (link_fits who now time target bound.1) number after o;
    link = λ from dir name after o bound. link_follows now time w tree who (number_for w dir) name bound
        (number_for w from) after o;
    remove = λ dir name after o bound. remove_follows now time w tree who
        (number_for w dir) name after false o;
    remove_dir =
        λ dir name after o bound. remove_follows now time w tree who (number_for w dir) name after true o;
    rename = λ from from_name to to_name after o bound. rename_follows (number_for w from) from_name
        (number_for w to) to_name bound after o;
  })

-- a refusal leaves the files as they were
pub refusals : (w : Files) (who : Caller) (now : Timeval) (call : Call) (stat : Stat)
    → refusal_in (call_does w who now call).0 ≡ Some stat → (call_does w who now call).1 ≡ w
refusals w who now call stat =
    each_call w who now (λ call answer after. refusal_in answer ≡ Some stat → after ≡ w) (record {
      reads = λ call answer only h. refl;
      refused = λ call answer stat says h. refl;
      set_attributes = λ file s a after o _ h. absurd (none_some h);
      write = λ file offset new a after o _ h. absurd (none_some h);
      create = λ dir name s number a after o _ h. absurd (none_some h);
      make_dir = λ dir name s number a after o _ h. absurd (none_some h);
      symlink = λ dir name target s number after o h. absurd (none_some h);
      link = λ from dir name after o h. absurd (none_some h);
      remove = λ dir name after o h. absurd (none_some h);
      remove_dir = λ dir name after o h. absurd (none_some h);
      rename = λ from from_name to to_name after o h. absurd (none_some h);
    }) call
