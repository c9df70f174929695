-- Look-ups, as steps along paths.
use Rattle.std.specs.Prelude.{◌≡◌, ℕ, List, [], ◌∷◌, ◌++◌, Option, Some, option_map}
use Rattle.nfs_spec.specs.fs_spec.Paths.{DirectoryEntries, path_at}

-- each path to the directory leads on, by the name, to the number, or to nothing
abbrev pub LeadsOn : DirectoryEntries → ℕ → List ℕ → Option ℕ → Type 0
LeadsOn at dir name number = (path : List (List ℕ)) (cookie : ℕ) →
    path_at at path ≡ Some (dir, cookie) →
    option_map (λ e. e.0) (path_at at (path ++ name ∷ [])) ≡ number

-- each path to the directory that has a last name leads, without it, to the number
abbrev pub LeadsBack : DirectoryEntries → ℕ → ℕ → Type 0
LeadsBack at dir number = (path : List (List ℕ)) (name : List ℕ) (cookie : ℕ) →
    path_at at (path ++ name ∷ []) ≡ Some (dir, cookie) →
    option_map (λ e. e.0) (path_at at path) ≡ Some number
