use Rattle.std.proofs.Common.{arith}
use Rattle.xdr.specs.Item.{opaque}
use Rattle.xdr.proofs.Exact.{takes}
use Rattle.evidence_spec.specs.Base.{MAX_STATE}
use Rattle.evidence_showings.proofs.base_read.is_short.Goals as goal

pub returns : goal.returns
returns c = (takes (opaque MAX_STATE) c.args.start.now (c.args.state.now, c.args.rest.now)
    (λ i. omega (arith, c.type_inv.start i)) c.requires).1
