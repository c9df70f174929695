use Rattle.std.proofs.Common.{◌≡◌, Some, refl, [], ◌∷◌}
use Rattle.nfs_items.specs.Handle.{handle_of, number_in}
use Rattle.fs_spec.specs.Changes.Edits.{without_file}
use Rattle.nfs_spec.specs.Changes.{touch}
use Rattle.nfs_spec.specs.Opening.{epoch, opening_root, opening_hello}
use Rattle.nfs_examples.specs.Worked.{files_from, a, root_with, empty_file, link_to_t, root_between}
use Rattle.nfs_examples.specs.Worked.{root_emptied, root_again, with_directory, with_written, with_made}
use Rattle.nfs_examples.specs.Worked.{with_next}
use Rattle.nfs_spec.proofs.OpeningFiles.{root_there, hello_there}
use Rattle.nfs_examples.proofs.Computed.{file_of_list, room_of, entries_of, without_in, same_files}
use Rattle.nfs_examples.proofs.rows.files_made_and_removed.Goals as goal

pub returns-clause-write : goal.returns-clause-write
returns-clause-write c = rw (hello_there 1, room_of 3 with_written) refl

pub returns-clause-written : goal.returns-clause-written
returns-clause-written c = rw (file_of_list 3 with_written 2, entries_of 3 with_written) refl

pub returns-clause-create : goal.returns-clause-create
returns-clause-create c =
    rw (
      root_there 1,
      file_of_list 4 ((3, empty_file) ∷ (1, opening_root) ∷ (2, opening_hello) ∷ []) 1,
      file_of_list 4 ((1, root_with a 3) ∷ (3, empty_file) ∷ (1, opening_root) ∷ (2, opening_hello) ∷ []) 1,
      room_of 4 (with_made empty_file),
    ) refl

pub returns-clause-create_over : goal.returns-clause-create_over
returns-clause-create_over c =
    rw (
      root_there 1,
      hello_there 1,
      room_of 3 ((2, empty_file) ∷ (1, opening_root) ∷ (2, opening_hello) ∷ []),
    ) refl

pub returns-clause-exists : goal.returns-clause-exists
returns-clause-exists c = rw (file_of_list 4 with_directory 1, file_of_list 4 with_directory 3) refl

pub returns-clause-symlink : goal.returns-clause-symlink
returns-clause-symlink c =
    rw (
      root_there 1,
      file_of_list 4 ((3, link_to_t) ∷ (1, opening_root) ∷ (2, opening_hello) ∷ []) 1,
      file_of_list 4 ((1, root_with a 3) ∷ (3, link_to_t) ∷ (1, opening_root) ∷ (2, opening_hello) ∷ []) 1,
      room_of 4 (with_made link_to_t),
    ) refl

pub returns-clause-target : goal.returns-clause-target
returns-clause-target c = rw (file_of_list 4 (with_made link_to_t) 3) refl

-- the directory that was made is gone
emptied : touch epoch (without_file (files_from 4 ((1, root_between) ∷ with_directory)) 3) 1
    ≡ files_from 4 ((1, root_between) ∷ (2, opening_hello) ∷ [])
emptied =
    rw (
      without_in 3 ((1, root_between) ∷ with_directory),
      file_of_list 4 ((1, root_between) ∷ (1, root_with a 3) ∷ (1, root_with a 3) ∷ (1, opening_root)
          ∷ (2, opening_hello) ∷ []) 1,
    ) (same_files 4 ((1, root_between) ∷ (1, root_between) ∷ (1, root_with a 3) ∷ (1, root_with a 3)
    ∷ (1, opening_root) ∷ (2, opening_hello) ∷ []) ((1, root_between) ∷ (2, opening_hello) ∷ []) refl)

pub returns-clause-remove_dir : goal.returns-clause-remove_dir
returns-clause-remove_dir c =
    rw (
      file_of_list 4 with_directory 1,
      file_of_list 4 with_directory 3,
      entries_of 4 ((1, root_between) ∷ with_directory),
      emptied,
    ) refl

pub returns-clause-left : goal.returns-clause-left
returns-clause-left c = rw (file_of_list 4 ((1, root_between) ∷ (2, opening_hello) ∷ []) 1) refl

-- the file whose last name is removed is gone
removed : touch epoch (without_file (files_from 3
    ((1, root_emptied) ∷ (1, opening_root) ∷ (2, opening_hello) ∷ [])) 2) 1
    ≡ files_from 3 ((1, root_emptied) ∷ [])
removed =
    rw (
      without_in 2 ((1, root_emptied) ∷ (1, opening_root) ∷ (2, opening_hello) ∷ []),
      file_of_list 3 ((1, root_emptied) ∷ (1, opening_root) ∷ []) 1,
    ) (same_files 3 ((1, root_emptied) ∷ (1, root_emptied) ∷ (1, opening_root) ∷ [])
    ((1, root_emptied) ∷ []) refl)

pub returns-clause-remove : goal.returns-clause-remove
returns-clause-remove c =
    rw (
      root_there 1,
      hello_there 1,
      entries_of 3 ((1, root_emptied) ∷ (1, opening_root) ∷ (2, opening_hello) ∷ []),
      removed,
    ) refl

handle_there : number_in 1 (handle_of 1 2) ≡ Some 2
unfolding number_in handle_of
handle_there = refl

pub returns-clause-stale : goal.returns-clause-stale
returns-clause-stale c = rw (handle_there, file_of_list 3 ((1, root_emptied) ∷ []) 2) refl

pub returns-clause-next : goal.returns-clause-next
returns-clause-next c =
    rw (
      file_of_list 3 ((1, root_emptied) ∷ []) 1,
      file_of_list 4 ((3, empty_file) ∷ (1, root_emptied) ∷ []) 1,
      file_of_list 4 ((1, root_again) ∷ (3, empty_file) ∷ (1, root_emptied) ∷ []) 1,
      room_of 4 with_next,
    ) refl
