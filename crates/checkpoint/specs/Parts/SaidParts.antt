-- What the parts of a state's text say.
use Rattle.std.specs.Prelude.{ℕ, List, map}
use Rattle.xdr.specs.Item.{Value, choice}
use Rattle.state_spec.specs.server_spec.FileItems.{file_item}
use Rattle.state_machine.specs.file_texts.Parts.{time_said, file_said}
use Rattle.state_machine.specs.file_texts.declared.parts.TimePart.{TimePart}
use Rattle.state_spec.specs.State.{ReceivedMessage}
use Rattle.state_spec.specs.StateItems.{sent_item, mount_item, stage_item, is_node_kind, rest_item}
use Rattle.state_spec.specs.StateItems.{machine_item, received_value, sent_value}
use Rattle.state_spec.specs.StateText.{Said}
use Rattle.state_machine.specs.declared.states.texts.NumberedSend.{NumberedSend}
use Rattle.checkpoint.specs.declared.parts.parts.StagePart.{StagePart}
use Rattle.checkpoint.specs.declared.parts.parts.StagePart.TheVariants.{Idle, Heard, Owes}
use Rattle.checkpoint.specs.declared.parts.parts.MountPart.{MountPart}
use Rattle.checkpoint.specs.declared.parts.parts.WorldPart.{WorldPart}
use Rattle.checkpoint.specs.declared.parts.parts.MachinePart.{MachinePart}
use Rattle.checkpoint.specs.declared.parts.parts.MachinePart.TheVariants.{Server, Client}
use Rattle.checkpoint.specs.declared.parts.parts.StatePart.{StatePart}

-- a sent message after its number
abbrev pub sent_said : NumberedSend → Value sent_item
sent_said s = sent_value (s.seq, s.message)

-- a mount: host name and directory
abbrev pub mount_said : MountPart → Value mount_item
mount_said m = (m.host.now, m.directory.now)

-- mounts as host name and directory, in order
abbrev pub mounts_given : List MountPart → List (List ℕ × List ℕ)
mounts_given parts = map mount_said parts

-- a stage: its number, the other node and the body
abbrev pub stage_said : StagePart → Value stage_item
stage_said Idle = (0, tt)
stage_said (Heard from body) = (1, (from, body.now))
stage_said (Owes to body) = (2, (to, body.now))

-- what stands after a server's messages
abbrev pub world_said : WorldPart → Value (rest_item file_item 1)
world_said w = (stage_said w.stage, (w.next, (mounts_given w.mounts.items, map file_said w.files.items)))

-- what stands after a kind: clock, messages, and what only that kind has
abbrev pub kind_said : (kind : ℕ) → TimePart → List ReceivedMessage → List NumberedSend
    → Value (rest_item file_item kind) → Value (machine_item file_item kind)
kind_said kind clock received sends rest =
    (time_said clock, (map received_value received, (map sent_said sends, rest)))

-- a node's kind, and what stands after it
abbrev pub machine_said : TimePart → List ReceivedMessage → List NumberedSend → MachinePart
    → Value (choice is_node_kind (machine_item file_item))
machine_said clock received sends (Server w) = (1, kind_said 1 clock received sends (world_said w))
machine_said clock received sends Client = (2, kind_said 2 clock received sends 0)

-- what a state's text says: version 1, the node, and the rest
abbrev pub state_said : StatePart → Said
state_said p = (1, (p.node, machine_said p.clock p.received.items p.sends.items p.machine))
