-- Codes, by which a proof tells values apart.
use Rattle.std.specs.Prelude.{◌≡◌, ℕ, List, refl}
use Rattle.std.specs.Ordering.{nat_cmp}
use Rattle.std.specs.FinMap as finite
use Rattle.std.specs.FinSet as finite_set
use Rattle.std.specs.FinSet.{FinSet}
use Rattle.std.specs.Coded.{Coded, code_by, coded×, coded⊎, coded_ℕ, coded_list}
use Rattle.std.proofs.Common.{inl, inr, ◌⊎◌}
use Rattle.nfs_items.specs.Timeval.{Timeval, timeval_code}
use Rattle.server_spec.specs.World.{World, world_code}
use Rattle.state_spec.specs.State.{ReceivedMessage, received_cmp, SentMessage, Stage, Idle, Heard, Owes}
use Rattle.state_spec.specs.State.{Machine, Server, Client, State}

-- of a message that was received
abbrev pub received_code : Coded ReceivedMessage
received_code =
    code_by (ℕ × (ℕ × List ℕ)) (coded× coded_ℕ (coded× coded_ℕ (coded_list coded_ℕ)))
    (λ r. (r.from, (r.seq, r.hash))) (λ p. record { from = p.0; seq = p.1.0; hash = p.1.1 }) (λ _. refl)

-- of a message that was sent
abbrev pub sent_code : Coded SentMessage
sent_code =
    code_by (ℕ × (List ℕ × List ℕ)) (coded× coded_ℕ (coded× (coded_list coded_ℕ) (coded_list coded_ℕ)))
    (λ s. (s.to, (s.prev, s.body_hash)))
    (λ p. record { to = p.0; prev = p.1.0; body_hash = p.1.1 }) (λ _. refl)

-- what a stage is made of, without names: nothing, or a node and a body for each of the two others
abbrev pub StageParts : Type 0
StageParts = ℕ ⊎ ((ℕ × List ℕ) ⊎ (ℕ × List ℕ))

-- the parts of a stage
abbrev pub stage_parts : Stage → StageParts
stage_parts Idle = inl 0
stage_parts (Heard from body) = inr (inl (from, body))
stage_parts (Owes to body) = inr (inr (to, body))

-- the stage of these parts
abbrev pub stage_of_parts : StageParts → Stage
stage_of_parts (inl n) = Idle
stage_of_parts (inr (inl p)) = Heard p.0 p.1
stage_of_parts (inr (inr p)) = Owes p.0 p.1

-- a stage is that of its parts
pub stage_parts_back : (s : Stage) → stage_of_parts (stage_parts s) ≡ s
stage_parts_back Idle = refl
stage_parts_back (Heard from body) = refl
stage_parts_back (Owes to body) = refl

-- of a stage
abbrev pub stage_code : Coded Stage
stage_code =
    code_by StageParts
    (coded⊎ coded_ℕ
    (coded⊎ (coded× coded_ℕ (coded_list coded_ℕ)) (coded× coded_ℕ (coded_list coded_ℕ))))
    stage_parts stage_of_parts stage_parts_back

-- what a machine is made of, without names: a world and a stage, or a clock
abbrev pub MachineParts : Type 0
MachineParts = (World × Stage) ⊎ Timeval

-- the parts of a machine
abbrev pub machine_parts : Machine → MachineParts
machine_parts (Server w stage) = inl (w, stage)
machine_parts (Client clock) = inr clock

-- the machine of these parts
abbrev pub machine_of_parts : MachineParts → Machine
machine_of_parts (inl p) = Server p.0 p.1
machine_of_parts (inr clock) = Client clock

-- a machine is that of its parts
pub machine_parts_back : (m : Machine) → machine_of_parts (machine_parts m) ≡ m
machine_parts_back (Server w stage) = refl
machine_parts_back (Client clock) = refl

-- of a machine
abbrev pub machine_code : Coded Machine
machine_code =
    code_by MachineParts (coded⊎ (coded× world_code stage_code) timeval_code)
    machine_parts machine_of_parts machine_parts_back

-- of a state
abbrev pub state_code : Coded State
state_code =
    code_by (ℕ × (FinSet received_cmp × (finite.FinMap nat_cmp SentMessage × Machine)))
    (coded× coded_ℕ
    (coded× (finite_set.code received_code) (coded× (finite.code coded_ℕ sent_code) machine_code)))
    (λ s. (s.node, (s.received, (s.sends, s.machine))))
    (λ p. record { node = p.0; received = p.1.0; sends = p.1.1.0; machine = p.1.1.1 }) (λ _. refl)
