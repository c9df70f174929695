use Rattle.std.proofs.Common.{◌≡◌, refl, [], ◌∷◌}
use Rattle.fs_spec.specs.Changes.Edits.{without_file}
use Rattle.nfs_spec.specs.Changes.{touch}
use Rattle.nfs_spec.specs.Opening.{epoch, opening_hello}
use Rattle.nfs_examples.specs.Worked.{files_from, empty_file, root_between, root_of_three, root_of_two}
use Rattle.nfs_examples.specs.Worked.{with_link, with_three, with_two}
use Rattle.nfs_examples.proofs.Computed.{file_of_list, entries_of, without_in, same_files}
use Rattle.nfs_examples.proofs.rows.pages_round_a_removal.Goals as goal

pub returns-clause-first : goal.returns-clause-first
returns-clause-first c = rw (file_of_list 5 with_three 1) refl

pub returns-clause-rest : goal.returns-clause-rest
returns-clause-rest c = rw (file_of_list 5 with_two 1) refl

pub returns-clause-names : goal.returns-clause-names
returns-clause-names c =
    rw (entries_of 3 ((1, root_between) ∷ (2, opening_hello) ∷ (1, root_between) ∷ with_link)) refl

removed : touch epoch (without_file (files_from 5 ((1, root_of_two) ∷ with_three)) 2) 1
    ≡ files_from 5 with_two
removed =
    rw (
      without_in 2 ((1, root_of_two) ∷ with_three),
      file_of_list 5 ((1, root_of_two) ∷ (1, root_of_three) ∷ (3, empty_file) ∷ (4, empty_file) ∷ []) 1,
    ) (same_files 5 ((1, root_of_two) ∷ (1, root_of_two) ∷ (1, root_of_three) ∷ (3, empty_file)
    ∷ (4, empty_file) ∷ []) with_two refl)

pub returns-clause-remove : goal.returns-clause-remove
returns-clause-remove c =
    rw (
      file_of_list 5 with_three 1,
      file_of_list 5 with_three 2,
      entries_of 5 ((1, root_of_two) ∷ with_three),
      removed,
    ) refl
