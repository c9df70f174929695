-- Calls, one after the other.
use Rattle.std.specs.Prelude.{List, [], ◌∷◌}
use Rattle.nfs_spec.specs.nfs_items.Timeval.{Timeval}
use Rattle.nfs_spec.specs.nfs_items.Caller.{Caller}
use Rattle.nfs_spec.specs.fs_spec.Files.{Files}
use Rattle.nfs_spec.specs.fs_spec.Trees.{IsTime}
use Rattle.nfs_spec.specs.nfs_types.Calls.{Call}
use Rattle.nfs_spec.specs.NfsCalls.{call_does}
use Rattle.nfs_laws.specs.Laws.{IsBounded}

-- a call, with its caller and the time of it
pub record Request : Type 0 where
  pub who : Caller
  pub now : Timeval
  pub call : Call

-- the files after calls, one after the other
abbrev pub files_after : Files → List Request → Files
files_after fs [] = fs
files_after fs (r ∷ requests) = files_after (call_does fs r.who r.now r.call).1 requests

-- times are times, and names and targets are within the protocol's bounds
abbrev pub AreBounded : List Request → Type 0
AreBounded [] = Unit {0}
AreBounded (r ∷ requests) = IsTime r.now × IsBounded r.call × AreBounded requests
