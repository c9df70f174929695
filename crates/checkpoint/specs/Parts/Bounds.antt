-- The bounds that parts of a state's text have.
use Rattle.std.specs.Prelude.{◌≤◌, length}
use Rattle.std.specs.List.{All}
use Rattle.mount_types.specs.declared.limits.TheConstants.{MNTNAMLEN, MNTPATHLEN}
use Rattle.mount_types.specs.Mounts.{max_mounts}
use Rattle.nfs_laws.specs.fs_spec.Maxima.{max_files}
use Rattle.state_machine.specs.file_texts.Bounds.{IsWritable}
use Rattle.state_machine.specs.file_texts.Parts.{body_of}
use Rattle.state_machine.specs.file_texts.declared.parts.FilePart.{FilePart}
use Rattle.state_spec.specs.Limits.{max_received, max_sends, max_body}
use Rattle.checkpoint.specs.declared.parts.parts.StagePart.{StagePart}
use Rattle.checkpoint.specs.declared.parts.parts.StagePart.TheVariants.{Idle, Heard, Owes}
use Rattle.checkpoint.specs.declared.parts.parts.MountPart.{MountPart}
use Rattle.checkpoint.specs.declared.parts.parts.WorldPart.{WorldPart}
use Rattle.checkpoint.specs.declared.parts.parts.MachinePart.{MachinePart}
use Rattle.checkpoint.specs.declared.parts.parts.MachinePart.TheVariants.{Server, Client}
use Rattle.checkpoint.specs.declared.parts.parts.StatePart.{StatePart}

-- a message's body has at most 12,288 bytes
abbrev pub IsShortStage : StagePart → Type 0
IsShortStage Idle = Unit {0}
IsShortStage (Heard from body) = length body.now ≤ max_body
IsShortStage (Owes to body) = length body.now ≤ max_body

-- what a server has is within its bounds: at most 40 mounts, names of machines of at most 255 bytes, paths of
-- at most 1,024, at most 8,192 files, and each of them one that a text can hold
pub record IsBoundedWorld (w : WorldPart) : Type 0 where
  -- the body that the stage holds
  pub stage : IsShortStage w.stage
  -- the count of mounts
  pub mounts : length w.mounts.items ≤ max_mounts
  -- the names of their machines
  pub hosts : All (λ (m : MountPart). length m.host.now ≤ MNTNAMLEN) w.mounts.items
  -- the paths of their directories
  pub directories : All (λ (m : MountPart). length m.directory.now ≤ MNTPATHLEN) w.mounts.items
  -- the count of files
  pub files : length w.files.items ≤ max_files
  -- what each file holds
  pub bodies : All (λ (f : FilePart). IsWritable (body_of f.body)) w.files.items

-- what a node of either kind has is within its bounds
abbrev pub IsBoundedMachine : MachinePart → Type 0
IsBoundedMachine (Server w) = IsBoundedWorld w
IsBoundedMachine Client = Unit {0}

-- Parts are within their bounds: at most 131,072 received messages and as many sent ones, and what the node's
-- kind has.
pub record AreBounded (p : StatePart) : Type 0 where
  -- the count of received messages
  pub received : length p.received.items ≤ max_received
  -- the count of sent messages
  pub sends : length p.sends.items ≤ max_sends
  -- what the node's kind has
  pub machine : IsBoundedMachine p.machine
