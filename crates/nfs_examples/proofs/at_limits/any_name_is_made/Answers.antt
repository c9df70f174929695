use Rattle.std.proofs.Common.{refl, [], ◌∷◌}
use Rattle.nfs_spec.specs.Opening.{epoch, hello, opening_root, opening_hello}
use Rattle.fs_spec.proofs.OfChanges.Listings.{name_other}
use Rattle.nfs_spec.proofs.OpeningFiles.{root_there}
use Rattle.nfs_examples.specs.Worked.{x, y, empty_file, root_with, with_three}
use Rattle.nfs_examples.specs.Linked.{root_of}
use Rattle.nfs_examples.specs.AtLimits.{with_file_named, with_x}
use Rattle.nfs_examples.proofs.Computed.{file_of_list, room_of, made_is}
use Rattle.nfs_examples.proofs.at_limits.any_name_is_made.Goals as goal

pub returns-clause-any : goal.returns-clause-any
returns-clause-any c name named other =
    rw (
      root_there 1,
      named,
      name_other name hello other,
      file_of_list 4 ((3, empty_file) ∷ (1, opening_root) ∷ (2, opening_hello) ∷ []) 1,
      name_other name hello other,
      file_of_list 4 ((1, root_with name 3) ∷ (3, empty_file) ∷ (1, opening_root) ∷ (2, opening_hello)
          ∷ []) 1,
      room_of 4 (with_file_named name),
    ) refl

pub returns-clause-x : goal.returns-clause-x
returns-clause-x c =
    rw (
      root_there 1,
      made_is epoch 3 ((1, opening_root) ∷ (2, opening_hello)
          ∷ []) 1 x empty_file opening_root with_x refl refl,
      room_of 4 with_x,
    ) refl

pub returns-clause-y : goal.returns-clause-y
returns-clause-y c =
    rw (
      file_of_list 4 with_x 1,
      made_is epoch 4 with_x 1 y empty_file (root_of 5 ((x, (3, 4)) ∷ [])) with_three refl refl,
      room_of 5 with_three,
    ) refl
