use Rattle.checkpoint.proofs.OfParts.Bounded.{bounded}
use Rattle.checkpoint.proofs.parts.whole.read_parts.Goals as goal

pub returns-in-Ok-clause-bounds : goal.returns-in-Ok-clause-bounds
returns-in-Ok-clause-bounds c = bounded c.in-Ok.parts c.in-Ok.ensures.found.0
