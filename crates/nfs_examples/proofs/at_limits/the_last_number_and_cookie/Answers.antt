use Rattle.std.proofs.Common.{◌≡◌, ℕ, List, None, refl, [], ◌∷◌}
use Rattle.fs_spec.specs.Files.{Directory, File}
use Rattle.nfs_spec.specs.Opening.{epoch, hello, first_file, opening_hello}
use Rattle.nfs_spec.specs.Procedures.{move_entry}
use Rattle.nfs_examples.specs.Worked.{files_from, a, empty_file}
use Rattle.nfs_examples.specs.Linked.{root_of}
use Rattle.nfs_examples.specs.AtLimits.{with_cookie, with_last_cookie}
use Rattle.nfs_examples.proofs.Computed.{file_of_list, room_of, made_is, same_files}
use Rattle.nfs_examples.proofs.at_limits.the_last_number_and_cookie.Goals as goal

-- the root without `hello`, and then with it as `a`
abbrev between : File
between = first_file 511 (Directory (record { next = 4294967294; entries = [] }))

abbrev behind : File
behind = first_file 511 (Directory (record { next = 4294967295; entries = (a, (2, 4294967294)) ∷ [] }))

abbrev es : List (ℕ × File)
es = with_cookie 4294967294

all_moved : move_entry epoch (files_from 3 es) 2 1 hello 1 a None ≡ files_from 3 with_last_cookie
all_moved =
    rw (
      file_of_list 3 es 1,
      file_of_list 3 ((1, between) ∷ es) 1,
      file_of_list 3 ((1, behind) ∷ (1, between) ∷ es) 2,
      file_of_list 3 ((2, opening_hello) ∷ (1, behind) ∷ (1, between) ∷ es) 1,
      file_of_list 3 ((1, behind) ∷ (2, opening_hello) ∷ (1, behind) ∷ (1, between) ∷ es) 1,
    ) (same_files 3 ((1, behind) ∷ (1, behind) ∷ (2, opening_hello) ∷ (1, behind) ∷ (1, between)
    ∷ es) with_last_cookie refl)

pub returns-clause-last : goal.returns-clause-last
returns-clause-last c =
    rw (file_of_list 3 (with_cookie 4294967294) 1, file_of_list 3 (with_cookie 4294967294) 2, all_moved) refl

pub returns-clause-full : goal.returns-clause-full
returns-clause-full c =
    rw (file_of_list 3 (with_cookie 4294967295) 1, file_of_list 3 (with_cookie 4294967295) 2) refl

abbrev past_numbers : List (ℕ × File)
past_numbers = (1, root_of 5 ((a, (4294967295, 4)) ∷ [])) ∷ (2, opening_hello) ∷ (4294967295, empty_file) ∷ []

pub returns-clause-number : goal.returns-clause-number
returns-clause-number c =
    rw (
      file_of_list 4294967295 (with_cookie 4) 1,
      made_is epoch 4294967295 (with_cookie 4) 1 a empty_file (root_of 4 []) past_numbers refl refl,
      room_of 4294967296 past_numbers,
    ) refl

abbrev past_cookies : List (ℕ × File)
past_cookies = (1, root_of 4294967296 ((a, (3, 4294967295)) ∷ [])) ∷ (2, opening_hello) ∷ (3, empty_file) ∷ []

pub returns-clause-cookie : goal.returns-clause-cookie
returns-clause-cookie c =
    rw (
      file_of_list 3 (with_cookie 4294967295) 1,
      made_is epoch 3 (with_cookie 4294967295) 1 a empty_file (root_of 4294967295 []) past_cookies refl refl,
      room_of 4 past_cookies,
    ) refl
