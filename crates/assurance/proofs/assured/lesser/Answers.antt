use Rattle.std.proofs.Common.{subst}
use Rattle.std.specs.Prelude.{ℕ, Option}
use Rattle.assurance.specs.Keeping.{IsLeast}
use Rattle.assurance.proofs.Least.{keeps_least}
use Rattle.assurance.proofs.assured.lesser.Goals as goal

pub returns-then-number-other : goal.returns-then-number-other
returns-then-number-other c = λ xs h.
    keeps_least xs c.in-Some.number c.args.other (subst (λ (o : Option ℕ). IsLeast xs o) c.in-Some.is h)
    c.if-number-other.true
