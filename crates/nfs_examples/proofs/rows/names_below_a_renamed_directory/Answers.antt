use Rattle.std.proofs.Common.{◌≡◌, true, false, None, refl, ap, ◌∙◌, ◌∷◌, length}
use Rattle.std.specs.FinMap as finite
use Rattle.fs_spec.specs.Changes.Limits.{file_count}
use Rattle.nfs_spec.specs.Procedures.{climbs_to, is_above, move_entry}
use Rattle.nfs_spec.specs.Opening.{epoch}
use Rattle.nfs_examples.specs.Worked.{files_from, a, b, c, d, empty_directory, empty_file, directory_of}
use Rattle.nfs_examples.specs.Worked.{root_between, root_renamed, with_directory, with_inner, with_nested}
use Rattle.nfs_examples.specs.Worked.{with_nested_renamed}
use Rattle.nfs_examples.proofs.Computed.{file_of_list, room_of, entries_of}
use Rattle.nfs_examples.proofs.rows.names_below_a_renamed_directory.Goals as goal

pub returns-clause-make_dir : goal.returns-clause-make_dir
returns-clause-make_dir c =
    rw (
      file_of_list 4 with_directory 3,
      file_of_list 4 ((4, empty_directory) ∷ with_directory) 3,
      file_of_list 4 ((3, directory_of b 4) ∷ (4, empty_directory) ∷ with_directory) 3,
      room_of 5 with_inner,
    ) refl

pub returns-clause-create : goal.returns-clause-create
returns-clause-create _ =
    rw (
      file_of_list 5 with_inner 4,
      file_of_list 5 ((5, empty_file) ∷ with_inner) 4,
      file_of_list 5 ((4, directory_of c 5) ∷ (5, empty_file) ∷ with_inner) 4,
      room_of 6 with_nested,
    ) refl

pub returns-clause-new : goal.returns-clause-new
returns-clause-new _ = rw (file_of_list 6 with_nested_renamed 1) refl

pub returns-clause-below : goal.returns-clause-below
returns-clause-below _ = rw (file_of_list 6 with_nested_renamed 3) refl

pub returns-clause-below_that : goal.returns-clause-below_that
returns-clause-below_that _ = rw (file_of_list 6 with_nested_renamed 4) refl

pub returns-clause-old : goal.returns-clause-old
returns-clause-old _ = rw (file_of_list 6 with_nested_renamed 1) refl

pub returns-clause-root : goal.returns-clause-root
returns-clause-root _ =
    rw (
      file_of_list 6 with_nested_renamed 1,
      file_of_list 6 with_nested_renamed 2,
      file_of_list 6 with_nested_renamed 3,
    ) refl

counted : file_count (files_from 6 with_nested) ≡ 5
counted = finite.len-entries (files_from 6 with_nested).files ∙ ap length (entries_of 6 with_nested)

not_above : is_above (files_from 6 with_nested) 3 1 ≡ false
not_above = ap (λ k. climbs_to k (files_from 6 with_nested) 3 1) counted

counted_renamed : file_count (files_from 6 with_nested_renamed) ≡ 5
counted_renamed =
    finite.len-entries (files_from 6 with_nested_renamed).files ∙ ap length (entries_of 6 with_nested_renamed)

above : is_above (files_from 6 with_nested_renamed) 3 4 ≡ true
above = ap (λ k. climbs_to k (files_from 6 with_nested_renamed) 3 4) counted_renamed
    ∙ rw (entries_of 6 with_nested_renamed) refl

all_moved : move_entry epoch (files_from 6 with_nested) 3 1 a 1 d None ≡ files_from 6 with_nested_renamed
all_moved =
    rw (
      file_of_list 6 with_nested 1,
      file_of_list 6 ((1, root_between) ∷ with_nested) 1,
      file_of_list 6 ((1, root_renamed) ∷ (1, root_between) ∷ with_nested) 3,
      file_of_list 6 ((3, directory_of b 4) ∷ (1, root_renamed) ∷ (1, root_between) ∷ with_nested) 1,
      file_of_list 6 ((1, root_renamed) ∷ (3, directory_of b 4) ∷ (1, root_renamed) ∷ (1, root_between)
          ∷ with_nested) 1,
    ) refl

pub returns-clause-rename : goal.returns-clause-rename
returns-clause-rename _ =
    rw (file_of_list 6 with_nested 1, file_of_list 6 with_nested 3, not_above, all_moved) refl

pub returns-clause-inside : goal.returns-clause-inside
returns-clause-inside _ =
    rw (
      file_of_list 6 with_nested_renamed 1,
      file_of_list 6 with_nested_renamed 4,
      file_of_list 6 with_nested_renamed 3,
      above,
    ) refl
