-- What the parts of a server's text give.
use Rattle.std.specs.Prelude.{ℕ}
use Rattle.nfs_items.specs.Timeval.{Timeval}
use Rattle.file_tree.specs.tree_rules.FileRules.Rules.{files_listed}
use Rattle.state_spec.specs.server_spec.World.{World, world_of}
use Rattle.state_machine.specs.file_texts.Parts.{files_given}
use Rattle.checkpoint.specs.Trees.ServedTrees.{IsServedTree}
use Rattle.state_spec.specs.State.{Stage}
use Rattle.state_spec.specs.State as spec
use Rattle.state_spec.specs.Rules.{MountsAreOfTheRoot, MountsDiffer}
use Rattle.checkpoint.specs.Parts.SaidParts.{mounts_given}
use Rattle.checkpoint.specs.declared.parts.parts.StagePart.{StagePart}
use Rattle.checkpoint.specs.declared.parts.parts.StagePart.TheVariants.{Idle, Heard, Owes}
use Rattle.checkpoint.specs.declared.parts.parts.WorldPart.{WorldPart}

-- the stage of a part
abbrev pub stage_given : StagePart → Stage
stage_given Idle = spec.Idle
stage_given (Heard from body) = spec.Heard from body.now
stage_given (Owes to body) = spec.Owes to body.now

-- the world of a server's parts, for the server of a number, at a clock
abbrev pub world_given : ℕ → Timeval → WorldPart → World
world_given node clock w =
    world_of (files_listed node w.next (files_given w.files.items)) clock (mounts_given w.mounts.items)

-- a server can have it, but for its clock: its files are a tree within all limits, and its mounts are of the
-- root and differ
pub record IsServed (node : ℕ) (w : WorldPart) : Type 0 where
  pub tree : IsServedTree node w.next (files_given w.files.items)
  pub directories : MountsAreOfTheRoot (mounts_given w.mounts.items)
  pub mounts : MountsDiffer (mounts_given w.mounts.items)
