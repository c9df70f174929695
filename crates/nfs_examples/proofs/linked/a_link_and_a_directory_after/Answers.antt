use Rattle.std.proofs.Common.{refl, [], ◌∷◌}
use Rattle.nfs_spec.specs.Opening.{epoch}
use Rattle.nfs_examples.specs.Worked.{empty_directory, link_to_t}
use Rattle.nfs_examples.specs.Linked.{e, f, s, root_of, with_f_again, with_s, with_e, without_e}
use Rattle.nfs_examples.proofs.Computed.{file_of_list, room_of, entries_of, made_is, gone_is}
use Rattle.nfs_examples.proofs.linked.a_link_and_a_directory_after.Goals as goal

pub returns-clause-symlink : goal.returns-clause-symlink
returns-clause-symlink c =
    rw (
      file_of_list 5 with_f_again 1,
      made_is epoch 5 with_f_again 1 s link_to_t (root_of 7 ((f, (4, 6)) ∷ [])) with_s refl refl,
      room_of 6 with_s,
    ) refl

pub returns-clause-target : goal.returns-clause-target
returns-clause-target c = rw (file_of_list 6 with_s 5) refl

pub returns-clause-make_dir : goal.returns-clause-make_dir
returns-clause-make_dir c =
    rw (
      file_of_list 6 with_s 1,
      made_is epoch 6 with_s 1 e empty_directory (root_of 8 ((f, (4, 6)) ∷ (s, (5, 7)) ∷ [])) with_e refl refl,
      room_of 7 with_e,
    ) refl

pub returns-clause-remove_dir : goal.returns-clause-remove_dir
returns-clause-remove_dir c =
    rw (
      file_of_list 7 with_e 1,
      file_of_list 7 with_e 6,
      entries_of 7 ((1, root_of 9 ((f, (4, 6)) ∷ (s, (5, 7)) ∷ [])) ∷ with_e),
      gone_is epoch 7 ((1, root_of 9 ((f, (4, 6)) ∷ (s, (5, 7)) ∷ [])) ∷ with_e) 6 1
          (root_of 9 ((f, (4, 6)) ∷ (s, (5, 7)) ∷ [])) without_e refl refl,
    ) refl

pub returns-clause-left : goal.returns-clause-left
returns-clause-left c = rw (file_of_list 7 without_e 1) refl
