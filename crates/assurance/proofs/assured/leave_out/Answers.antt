use Rattle.std.proofs.Common.{refl}
use Rattle.assurance.proofs.Least.{kept_less}
use Rattle.assurance.proofs.assured.leave_out.Goals as goal

pub returns-in-Some : goal.returns-in-Some
returns-in-Some c = λ a h. kept_less c.args.number a c.args.last _ _ h c.in-Some.is refl refl c.lesser.ensures
