-- The worlds that a server can have.
use Rattle.std.specs.Prelude.{◌≡◌, ◌<◌, ◌^◌, ℕ, IsTrue}
use Rattle.nfs_laws.specs.fs_spec.Trees.{IsTime, IsFileTree}
use Rattle.nfs_laws.specs.fs_spec.Changes.Limits.{has_room}
use Rattle.nfs_laws.specs.Sizes.Bounds.{AreWords}
use Rattle.mount_types.specs.Mounts.{AreMounts}
use Rattle.server_spec.specs.World.{World}

-- A world is one that the server of a number can have: its files are a tree within all limits, whose owners,
-- groups and seconds are words; its clock shows a time; its mounts are few, of the root, and differ.
pub record IsWorld (node : ℕ) (w : World) : Type 0 where
  -- the files are those of this server
  pub fsid : w.files.fsid ≡ node
  pub tree : IsFileTree w.files
  pub room : IsTrue (has_room w.files)
  pub words : AreWords w.files
  pub clock : IsTime w.clock
  pub seconds : w.clock.seconds < 2 ^ 32
  pub mounts : AreMounts w.mounts
