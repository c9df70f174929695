use Rattle.std.proofs.Common.{◌≡◌, true, false, None, refl, ap, ◌∙◌, [], ◌∷◌, length}
use Rattle.std.specs.FinMap as finite
use Rattle.fs_spec.specs.Changes.Limits.{file_count}
use Rattle.nfs_spec.specs.Procedures.{climbs_to, is_above, move_entry}
use Rattle.fs_spec.specs.Files.{Regular}
use Rattle.nfs_spec.specs.Opening.{epoch, first_file, opening_root, opening_hello}
use Rattle.nfs_examples.specs.Worked.{files_from, a, d, root_with, empty_directory, root_between}
use Rattle.nfs_examples.specs.Worked.{root_renamed, with_directory, with_renamed, with_link}
use Rattle.nfs_spec.proofs.OpeningFiles.{root_there, hello_there}
use Rattle.nfs_examples.proofs.Computed.{file_of_list, room_of, entries_of}
use Rattle.nfs_examples.proofs.rows.changes_on_small_files.Goals as goal

pub returns-clause-cut : goal.returns-clause-cut
returns-clause-cut c =
    rw (
      hello_there 1,
      room_of 3 ((2, first_file 420 (Regular [])) ∷ (1, opening_root) ∷ (2, opening_hello)
          ∷ []),
    ) refl

pub returns-clause-free : goal.returns-clause-free
returns-clause-free c =
    rw (
      file_of_list 3 ((2, first_file 420 (Regular [])) ∷ (1, opening_root) ∷ (2, opening_hello) ∷ []) 1,
      entries_of 3 ((2, first_file 420 (Regular [])) ∷ (1, opening_root) ∷ (2, opening_hello) ∷ []),
    ) refl

pub returns-clause-make_dir : goal.returns-clause-make_dir
returns-clause-make_dir c =
    rw (
      root_there 1,
      file_of_list 4 ((3, empty_directory) ∷ (1, opening_root) ∷ (2, opening_hello) ∷ []) 1,
      file_of_list 4 ((1, root_with a 3) ∷ (3, empty_directory) ∷ (1, opening_root) ∷ (2, opening_hello)
          ∷ []) 1,
      room_of 4 with_directory,
    ) refl

pub returns-clause-found : goal.returns-clause-found
returns-clause-found c = rw (file_of_list 4 with_renamed 1) refl

pub returns-clause-left : goal.returns-clause-left
returns-clause-left c = rw (file_of_list 4 with_renamed 1) refl

pub returns-clause-link : goal.returns-clause-link
returns-clause-link c =
    rw (
      hello_there 1,
      root_there 1,
      file_of_list 3 ((2, opening_hello) ∷ (1, opening_root) ∷ (2, opening_hello) ∷ []) 1,
      file_of_list 3 ((1, root_with a 2) ∷ (2, opening_hello) ∷ (1, opening_root) ∷ (2, opening_hello)
          ∷ []) 1,
      room_of 3 with_link,
    ) refl

pub returns-clause-names : goal.returns-clause-names
returns-clause-names c = rw (entries_of 3 with_link) refl

counted : file_count (files_from 4 with_directory) ≡ 3
counted = finite.len-entries (files_from 4 with_directory).files ∙ ap length (entries_of 4 with_directory)

not_above : is_above (files_from 4 with_directory) 3 1 ≡ false
not_above = ap (λ k. climbs_to k (files_from 4 with_directory) 3 1) counted

above_itself : is_above (files_from 4 with_directory) 3 3 ≡ true
above_itself = ap (λ k. climbs_to k (files_from 4 with_directory) 3 3) counted

all_moved : move_entry epoch (files_from 4 with_directory) 3 1 a 1 d None ≡ files_from 4 with_renamed
all_moved =
    rw (
      file_of_list 4 with_directory 1,
      file_of_list 4 ((1, root_between) ∷ with_directory) 1,
      file_of_list 4 ((1, root_renamed) ∷ (1, root_between) ∷ with_directory) 3,
      file_of_list 4 ((3, empty_directory) ∷ (1, root_renamed) ∷ (1, root_between) ∷ with_directory) 1,
      file_of_list 4 ((1, root_renamed) ∷ (3, empty_directory) ∷ (1, root_renamed) ∷ (1, root_between)
          ∷ with_directory) 1,
    ) refl

pub returns-clause-rename : goal.returns-clause-rename
returns-clause-rename c =
    rw (file_of_list 4 with_directory 1, file_of_list 4 with_directory 3, not_above, all_moved) refl

pub returns-clause-inside : goal.returns-clause-inside
returns-clause-inside c =
    rw (file_of_list 4 with_directory 1, file_of_list 4 with_directory 3, above_itself) refl

pub returns-clause-remove : goal.returns-clause-remove
returns-clause-remove c =
    rw (
      file_of_list 3 with_link 1,
      file_of_list 3 with_link 2,
      entries_of 3 ((1, root_between) ∷ with_link),
      file_of_list 3 ((1, root_between) ∷ with_link) 2,
      file_of_list 3 ((2, opening_hello) ∷ (1, root_between) ∷ with_link) 1,
    ) refl
