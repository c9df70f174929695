use Rattle.std.proofs.Common.{rules}
use Rattle.watching.proofs.OfResults.{greeted_other}
use Rattle.watching.proofs.results.add_greeted.Goals as goal

pub returns : goal.returns
returns c =
    greeted_other c.put_fixed.result _ _ _ _ _ (search rules) c.in_ok-put_u32.ensures.writes (search rules)
    c.put_fixed.ensures.writes
