-- A file that is made, linked and removed, each time with all files after the call.
use Rattle.std.specs.Prelude.{ℕ, List, [], ◌∷◌, codes}
use Rattle.fs_spec.specs.Files.{Directory, File}
use Rattle.nfs_spec.specs.Opening.{first_file, hello, opening_hello}
use Rattle.nfs_examples.specs.Worked.{empty_file, empty_directory, link_to_t}

-- `e`
abbrev pub e : List ℕ
e = codes "e"

-- `f`
abbrev pub f : List ℕ
f = codes "f"

-- `g`
abbrev pub g : List ℕ
g = codes "g"

-- `s`
abbrev pub s : List ℕ
s = codes "s"

-- the root with `hello` and these
abbrev pub root_of : ℕ → List (List ℕ × (ℕ × ℕ)) → File
root_of next entries =
    first_file 0x1ff (Directory (record { next = next; entries = (hello, (2, 3)) ∷ entries }))

-- files with `f`
abbrev pub with_f : List (ℕ × File)
with_f = (1, root_of 5 ((f, (3, 4)) ∷ [])) ∷ (2, opening_hello) ∷ (3, empty_file) ∷ []

-- with `g` too, which is the same file
abbrev pub with_f_and_g : List (ℕ × File)
with_f_and_g = (1, root_of 6 ((f, (3, 4)) ∷ (g, (3, 5)) ∷ [])) ∷ (2, opening_hello) ∷ (3, empty_file) ∷ []

-- with `g` alone
abbrev pub with_g : List (ℕ × File)
with_g = (1, root_of 6 ((g, (3, 5)) ∷ [])) ∷ (2, opening_hello) ∷ (3, empty_file) ∷ []

-- with neither
abbrev pub with_neither : List (ℕ × File)
with_neither = (1, root_of 6 []) ∷ (2, opening_hello) ∷ []

-- with another `f`
abbrev pub with_f_again : List (ℕ × File)
with_f_again = (1, root_of 7 ((f, (4, 6)) ∷ [])) ∷ (2, opening_hello) ∷ (4, empty_file) ∷ []

-- with a symbolic link `s` to `t`
abbrev pub with_s : List (ℕ × File)
with_s =
    (1, root_of 8 ((f, (4, 6)) ∷ (s, (5, 7)) ∷ []))
    ∷ (2, opening_hello) ∷ (4, empty_file) ∷ (5, link_to_t) ∷ []

-- with the directory `e`
abbrev pub with_e : List (ℕ × File)
with_e =
    (1, root_of 9 ((f, (4, 6)) ∷ (s, (5, 7)) ∷ (e, (6, 8)) ∷ []))
    ∷ (2, opening_hello) ∷ (4, empty_file) ∷ (5, link_to_t) ∷ (6, empty_directory) ∷ []

-- without that directory
abbrev pub without_e : List (ℕ × File)
without_e =
    (1, root_of 9 ((f, (4, 6)) ∷ (s, (5, 7)) ∷ []))
    ∷ (2, opening_hello) ∷ (4, empty_file) ∷ (5, link_to_t) ∷ []
