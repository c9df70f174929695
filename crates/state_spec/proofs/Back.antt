-- The state that a value gives is the one that says it: states that say the same are the same.
-- Serves: values_give_their_states, a_text_has_one_state; read_state (checkpoint).
use Rattle.std.proofs.Common.{◌≡◌, List, [], ◌∷◌, map, refl, sym, ap, ◌∙◌}
use Rattle.std.specs.Ordering.{nat_cmp}
use Rattle.std.specs.declared.cmp.Ordering.{Ordering}
use Rattle.std.specs.FinMap as finite
use Rattle.std.specs.FinSet.{FinSet}
use Rattle.fs_spec.specs.Files.{File}
use Rattle.server_spec.specs.FileItems.{file_item, file_value}
use Rattle.server_spec.specs.FileValues.{time_from, numbered_from}
use Rattle.server_spec.proofs.Files.{file_back}
use Rattle.state_spec.specs.State.{received_cmp, SentMessage, Stage, Idle, Heard, Owes, Machine, Server}
use Rattle.state_spec.specs.State.{Client, State, IsMachine, IsState}
use Rattle.state_spec.specs.StateItems.{received_value, sent_value, stage_value, machine_value}
use Rattle.state_spec.specs.StateText.{said}
use Rattle.state_spec.specs.StateValues.{map_from, set_from, received_from, sent_from, stage_of, stage_from}
use Rattle.state_spec.specs.StateValues.{world_from, machine_from, state_from}

-- what a function takes back in each item it takes back in all
pub map_back : {A B : Type 0} (f : A → B) (g : B → A) → ((a : A) → g (f a) ≡ a) → (xs : List A)
    → map g (map f xs) ≡ xs
map_back f g back [] = refl
map_back f g back (x ∷ xs) = λ i. back x i ∷ map_back f g back xs i

-- ---- maps and sets

-- a map is the one that its entries give
pub entries_back : {K X : Type 0} (R : K → K → Ordering) (m : finite.FinMap R X)
    → map_from R (finite.entries m) ≡ m
unfolding map_from
entries_back R m =
    finite.same_entries_map (finite.from_sorted (finite.entries m)) m
    (finite.entries-from_sorted R (finite.entries m) (finite.entries_sorted m))

-- a set is the one that its keys give
pub keys_back : {K : Type 0} (R : K → K → Ordering) (m : FinSet R) → set_from R (finite.keys m) ≡ m
unfolding set_from
keys_back {K} R m =
    ap (map_from R) (map_back {A = K × Unit {0}} (λ e. e.0) (λ k. (k, tt)) (λ e. refl) (finite.entries m))
    ∙ entries_back R m

received_back : (r : FinSet received_cmp)
    → set_from received_cmp (map received_from (map received_value (finite.keys r))) ≡ r
unfolding received_from
received_back r =
    ap (set_from received_cmp) (map_back received_value received_from (λ _. refl) (finite.keys r))
    ∙ keys_back received_cmp r

sends_back : (m : finite.FinMap nat_cmp SentMessage)
    → map_from nat_cmp (map sent_from (map sent_value (finite.entries m))) ≡ m
unfolding sent_from
sends_back m =
    ap (map_from nat_cmp) (map_back sent_value sent_from (λ _. refl) (finite.entries m))
    ∙ entries_back nat_cmp m

files_back : (m : finite.FinMap nat_cmp File)
    → map_from nat_cmp (map numbered_from (map file_value (finite.entries m))) ≡ m
files_back m =
    ap (map_from nat_cmp) (map_back file_value numbered_from file_back (finite.entries m))
    ∙ entries_back nat_cmp m

-- ---- states

stage_back : (s : Stage) → stage_from (stage_value s) ≡ s
unfolding stage_from stage_of
stage_back Idle = refl
stage_back (Heard from body) = refl
stage_back (Owes to body) = refl

by_machine : (s : State) (m : Machine) → IsMachine s.node m
    → state_from (1, (s.node, machine_value file_item file_value s m))
    ≡ record { node = s.node; received = s.received; sends = s.sends; machine = m }
unfolding state_from machine_from world_from time_from
by_machine s (Server w stage) h = λ i. record {
  node = s.node;
  received = received_back s.received i;
  sends = sends_back s.sends i;
  machine =
      Server (record {
        files = record {
          fsid = sym h.fsid i;
          next = w.files.next;
          files = files_back w.files.files i;
        };
        clock = w.clock;
        mounts = w.mounts;
      }) (stage_back stage i);
}
by_machine s (Client clock) h =
    λ i. record {
      node = s.node;
      received = received_back s.received i;
      sends = sends_back s.sends i;
      machine = Client clock;
    }

-- a state comes back from what is said of it
pub back : (s : State) → IsState s → state_from (said s) ≡ s
back s h = by_machine s s.machine h

-- states that say the same are the same
pub one_state : (s t : State) → IsState s → IsState t → said s ≡ said t → s ≡ t
one_state s t h k e = sym (back s h) ∙ ap state_from e ∙ back t k
