use Rattle.std.proofs.Common.{refl}
use Rattle.witness_process.proofs.OfRosters.{has_greeted}
use Rattle.witness_process.proofs.elsewhere.digest_in.Goals as goal

-- it goes by the roster that was asked for
pub returns-in-Ok-Same : goal.returns-in-Ok-Same
returns-in-Ok-Same c =
    has_greeted c.args.asked.now c.args.results.now c.args.asked.now c.in-Ok-Same.field-0 c.in-Ok-Same.ensures
    (rw c.in-Ok-Same.field-0-is refl)
