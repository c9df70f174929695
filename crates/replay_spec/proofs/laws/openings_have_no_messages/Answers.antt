use Rattle.std.proofs.Common.{◌≡◌, ℕ, refl}
use Rattle.secure_log.specs.authenticator.declared.member.Kind.{Kind}
use Rattle.secure_log.specs.authenticator.declared.member.Kind.TheVariants as kinds
use Rattle.state_spec.specs.State.{Machine, opened_with, opening_server, opening_client}
use Rattle.replay_spec.specs.Opening.{opening_by}
use Rattle.replay_spec.proofs.laws.openings_have_no_messages.Goals as goal

by_kind : (kind : Kind) (node : ℕ) → (machine : Machine) × (opening_by kind node ≡ opened_with node machine)
by_kind kinds.Server node = ((opening_server node).machine, refl)
by_kind kinds.Client node = ((opening_client node).machine, refl)

-- by the member's kind
pub returns : goal.returns
returns c = λ m. by_kind m.kind m.node
