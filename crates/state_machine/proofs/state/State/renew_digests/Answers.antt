use Rattle.std.proofs.Common.{sym, subst}
use Rattle.state_spec.specs.State.{Machine}
use Rattle.state_machine.specs.Machines.{IsOf}
use Rattle.state_machine.proofs.state.State.renew_digests.Goals as goal

pub invariant_of-self : goal.invariant_of-self
invariant_of-self c =
    subst (λ (m : Machine). IsOf c.self.inside.node m) (sym c.renew_digests.ensures.same) c.self.invariant
