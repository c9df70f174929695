use Rattle.std.proofs.Common.{◌≡◌, Some, refl, [], ◌∷◌}
use Rattle.nfs_items.specs.Handle.{handle_of, number_in}
use Rattle.nfs_spec.specs.Opening.{epoch, opening_root, opening_hello}
use Rattle.nfs_examples.specs.Worked.{empty_file}
use Rattle.nfs_examples.specs.Linked.{f, g, root_of, with_f, with_f_and_g, with_g, with_neither, with_f_again}
use Rattle.nfs_spec.proofs.OpeningFiles.{root_there}
use Rattle.nfs_examples.proofs.Computed.{file_of_list, room_of, entries_of, made_is, named_is, marked_is}
use Rattle.nfs_examples.proofs.Computed.{gone_is}
use Rattle.nfs_examples.proofs.linked.one_file_under_two_names.Goals as goal

handle_three : number_in 1 (handle_of 1 3) ≡ Some 3
unfolding number_in handle_of
handle_three = refl

pub returns-clause-create : goal.returns-clause-create
returns-clause-create c =
    rw (
      root_there 1,
      made_is epoch 3 ((1, opening_root) ∷ (2, opening_hello)
          ∷ []) 1 f empty_file opening_root with_f refl refl,
      room_of 4 with_f,
    ) refl

pub returns-clause-link : goal.returns-clause-link
returns-clause-link c =
    rw (
      file_of_list 4 with_f 3,
      file_of_list 4 with_f 1,
      named_is epoch 4 ((3, empty_file) ∷ with_f) 3 1 g (root_of 5 ((f, (3, 4)) ∷ [])) with_f_and_g refl refl,
      room_of 4 with_f_and_g,
    ) refl

pub returns-clause-two : goal.returns-clause-two
returns-clause-two c = rw (handle_three, file_of_list 4 with_f_and_g 3, entries_of 4 with_f_and_g) refl

pub returns-clause-remove : goal.returns-clause-remove
returns-clause-remove c =
    rw (
      file_of_list 4 with_f_and_g 1,
      file_of_list 4 with_f_and_g 3,
      entries_of 4 ((1, root_of 6 ((g, (3, 5)) ∷ [])) ∷ with_f_and_g),
      marked_is epoch 4 ((1, root_of 6 ((g, (3, 5)) ∷ [])) ∷ with_f_and_g) 3 1 empty_file
          (root_of 6 ((g, (3, 5)) ∷ [])) with_g refl refl refl,
    ) refl

pub returns-clause-one : goal.returns-clause-one
returns-clause-one c = rw (handle_three, file_of_list 4 with_g 3, entries_of 4 with_g) refl

pub returns-clause-last : goal.returns-clause-last
returns-clause-last c =
    rw (
      file_of_list 4 with_g 1,
      file_of_list 4 with_g 3,
      entries_of 4 ((1, root_of 6 []) ∷ with_g),
      gone_is epoch 4 ((1, root_of 6 []) ∷ with_g) 3 1 (root_of 6 []) with_neither refl refl,
    ) refl

pub returns-clause-stale : goal.returns-clause-stale
returns-clause-stale c = rw (handle_three, file_of_list 4 with_neither 3) refl

pub returns-clause-again : goal.returns-clause-again
returns-clause-again c =
    rw (
      file_of_list 4 with_neither 1,
      made_is epoch 4 with_neither 1 f empty_file (root_of 6 []) with_f_again refl refl,
      room_of 5 with_f_again,
    ) refl
