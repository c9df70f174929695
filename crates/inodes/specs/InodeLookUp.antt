-- A look-up in an inode.
use Rattle.std.specs.Prelude.{ℕ, List, Result, Err, if◌then◌else◌}
use Rattle.nfs_spec.specs.nfs_items.Caller.{Caller}
use Rattle.nfs_spec.specs.nfs_items.declared.stat.Stat.{Stat}
use Rattle.nfs_spec.specs.nfs_items.declared.stat.Stat.TheVariants as stats
use Rattle.nfs_spec.specs.ProcedureChecks.{◌>>=◌, ok_or, listing_or, may_search}
use Rattle.inodes.specs.declared.inode.Inode.{Inode}
use Rattle.nfs_spec.specs.Effects.{number_in_listing}
use Rattle.inodes.specs.Inodes.{body_in, file_in, parent_in}

-- NOTDIR; search permission, else ACCES; NOENT
abbrev pub look_up_in : Caller → ℕ → Inode → List ℕ → Result ℕ Stat
look_up_in who number inode name = do
  l ← listing_or stats.NotDir (body_in inode.body)
  if may_search who (file_in inode)
      then ok_or stats.NoEnt (number_in_listing number (parent_in inode.body) l name)
      else Err stats.Acces
