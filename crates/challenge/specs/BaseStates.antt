-- The state of a base, as its bytes give it.
use Rattle.std.specs.Prelude.{◌≡◌, ℕ, ◌+◌, ◌-◌, ◌≤◌, ◌==◌, if◌then◌else◌, List, [], ◌∷◌, Option, Some, None}
use Rattle.std.specs.FinMap.{len}
use Rattle.replay.specs.replay_spec.state_spec.State.{State}
use Rattle.replay.specs.replay_spec.state_spec.StateText.{IsStateText}
use Rattle.evidence_showings.specs.evidence_spec.Base.{BaseParts, HasState, IsCheckAt, MAX_KNOWN}
use Rattle.evidence_showings.specs.evidence_spec.Base.{SendsLieBelow}
use Rattle.evidence_showings.specs.evidence_spec.Showing.{ShownLink}

-- The bytes of a base are the text of a state of the showing's node that knows few messages, of which those
-- sent have numbers below that of the base.
pub record IsStateOf (b : BaseParts) (s : State) : Type 0 where
  pub text : IsStateText s b.state
  pub node : s.node ≡ b.showing.node
  pub few_received : len s.received ≤ MAX_KNOWN
  pub few_sends : len s.sends ≤ MAX_KNOWN
  pub sends : SendsLieBelow b.log_version s b.at

-- No state has its CHECK at a base's number.
abbrev pub HasNoCheck : BaseParts → Type 0
HasNoCheck b = (s : State) → ¬ IsCheckAt b s

-- A base has no state.
abbrev pub HasNoState : BaseParts → Type 0
HasNoState b = (s : State) → ¬ HasState b s

-- the link with a number, of links after another number
abbrev pub link_at : (before : ℕ) → List ShownLink → (number : ℕ) → Option ShownLink
link_at before [] number = None
link_at before (l ∷ ls) number =
    if before + 1 + l.skipped == number then Some l else link_at (before + 1 + l.skipped) ls number

-- a link is that at a base's number
abbrev pub LinkIs : BaseParts → ShownLink → Type 0
LinkIs b l = link_at (b.showing.first - 1) b.showing.links b.at ≡ Some l
