-- What becomes of a body when bytes are written into it.
use Rattle.std.specs.Prelude.{ℕ, List}
use Rattle.nfs_spec.specs.fs_spec.Files.{Body, Regular, Symlink, Directory}
use Rattle.nfs_spec.specs.Changes.{with_bytes_at}

-- a regular file's bytes with others written at an offset; no other body has bytes
abbrev pub body_with_bytes_at : ℕ → List ℕ → Body → Body
body_with_bytes_at offset new (Regular old) = Regular (with_bytes_at offset new old)
body_with_bytes_at offset new (Symlink target) = Symlink target
body_with_bytes_at offset new (Directory l) = Directory l
