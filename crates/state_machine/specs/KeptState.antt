-- A node's state, and which of its files have no digest that is kept.
use Rattle.std.specs.Prelude.{List, refl}
use Rattle.std.specs.Coded.{Coded, code_by, coded×, coded_list, coded_ℕ}
use Rattle.service.specs.nfs_items.Terms.{FileNumber}
use Rattle.state_spec.specs.State.{State}
use Rattle.state_spec.specs.Codes.{state_code}

-- a state, and the numbers of the files whose digest isn't kept; a client has none
pub record KeptState : Type 0 where
  pub state : State
  pub missing : List FileNumber

-- they are told apart by both
abbrev pub kept_state_code : Coded KeptState
kept_state_code =
    code_by (State × List FileNumber) (coded× state_code (coded_list coded_ℕ)) (λ k. (k.state, k.missing))
    (λ p. record { state = p.0; missing = p.1 }) (λ _. refl)
