-- A state that has a text can be spelled, and knows few messages.
-- Serves: texts_are_spelled.
use Rattle.std.proofs.Common.{◌≤◌, map, length, arith}
use Rattle.std.specs.FinMap as finite
use Rattle.std.proofs.lemmas.List.{length-map}
use Rattle.nfs_items.specs.xdr.Item.{Fits, array, choice}
use Rattle.state_spec.specs.server_spec.FileItems.{file_item, file_value}
use Rattle.state_spec.specs.Limits.{max_received, max_sends}
use Rattle.state_spec.specs.State.{Machine, Server, Client, State}
use Rattle.state_spec.specs.StateItems.{received_item, received_value, sent_item, sent_value}
use Rattle.state_spec.specs.StateItems.{is_node_kind, machine_item, machine_value}
use Rattle.replay_spec.specs.StateLaws.{HasFew, MachineIsSpelled, TextsAreSpelled}

module _ (s : State) (received : length (map received_value (finite.keys s.received)) ≤ max_received)
    (sends : length (map sent_value (finite.entries s.sends)) ≤ max_sends) where
  few : HasFew s
  few = record {
    received =
        omega (
          arith,
          length-map (finite.keys s.received) received_value,
          length-map (finite.entries s.received) (λ e. e.0),
          finite.len-entries s.received,
          received,
        );
    sends =
        omega (arith, length-map (finite.entries s.sends) sent_value, finite.len-entries s.sends, sends);
  }

-- what a text says after the node
record SaysParts (s : State) (m : Machine) : Type 0 where
  received : Fits (array max_received received_item) (map received_value (finite.keys s.received))
  sends : Fits (array max_sends sent_item) (map sent_value (finite.entries s.sends))
  machine : MachineIsSpelled m

parts : (s : State) (m : Machine)
    → Fits (choice is_node_kind (machine_item file_item)) (machine_value file_item file_value s m)
    → SaysParts s m
parts s (Server w stage) fits =
    record { received = fits.2.1.0; sends = fits.2.1.1.0; machine = fits.2.1.1.1.0 }
parts s (Client clock) fits = record { received = fits.2.1.0; sends = fits.2.1.1.0; machine = fits.2.0.0 }

-- a state that has a text can be spelled, and knows few messages
pub of_texts : TextsAreSpelled
of_texts s bytes h =
    let p = parts s s.machine h.fits.1.1 in (
      record {
        state = h.state;
        node = h.fits.1.0;
        received = p.received.2;
        sends = p.sends.2;
        machine = p.machine;
      },
      few s p.received.1 p.sends.1,
    )
