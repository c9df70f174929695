-- What is said of a state can be spelled where its parts can.
-- Serves: State::is_a_state, Machine::is_valid.
use Rattle.std.proofs.Common.{◌≡◌, ℕ, ◌<◌, ◌^◌, map, refl, subst, arith}
use Rattle.std.specs.FinMap as finite
use Rattle.xdr.specs.Item.{Fits, array}
use Rattle.state_spec.specs.server_spec.World.{World}
use Rattle.state_spec.specs.server_spec.IsWorld.{IsWorld}
use Rattle.state_spec.specs.server_spec.FileItems.{file_item, file_value}
use Rattle.state_spec.specs.Limits.{max_received, max_sends}
use Rattle.state_spec.specs.State.{Stage, Machine, Server, Client, State}
use Rattle.state_spec.specs.StateItems.{received_item, received_value, sent_item, sent_value, stage_item}
use Rattle.state_spec.specs.StateItems.{stage_value, machine_value, state_item}
use Rattle.state_spec.specs.StateText.{said}
use Rattle.state_spec.proofs.Worlds.{world_fits}
use Rattle.state_machine.specs.Machines.{MachineFits}

-- a state whose number is a word and whose messages and machine can be spelled
pub state_fits : (s : State) → s.node < 2 ^ 32
    → Fits (array max_received received_item) (map received_value (finite.keys s.received))
    → Fits (array max_sends sent_item) (map sent_value (finite.entries s.sends)) → MachineFits s.machine
    → Fits (state_item file_item) (said s)
state_fits s node received sends machine = by s.machine machine
  where
    by : (m : Machine) → MachineFits m
        → Fits (state_item file_item) (1, (s.node, machine_value file_item file_value s m))
    by (Server w stage) h =
        ((omega arith, refl), (node, (omega arith, refl, (h.0, (received, (sends, h.1))))))
    by (Client clock) h =
        ((omega arith, refl), (node, (omega arith, refl, (h, (received, (sends, (omega arith, refl)))))))

-- a server's machine, where its world is one that a server can have and its stage can be spelled
pub server_fits : (w : World) (stage : Stage) → IsWorld w.files.fsid w → Fits stage_item (stage_value stage)
    → MachineFits (Server w stage)
server_fits w stage h fits =
    ((h.seconds, omega (arith, h.clock)), world_fits w.files.fsid w stage h fits)

-- and it is one that the server of its number can have
pub own_world : (node : ℕ) (w : World) → IsWorld w.files.fsid w → w.files.fsid ≡ node → IsWorld node w
own_world node w h own = subst (λ n. IsWorld n w) own h
