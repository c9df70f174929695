use Rattle.std.proofs.Common.{refl, arith}
use Rattle.rpc.proofs.Messages.{call_found, call_only}
use Rattle.rpc.proofs.call.read_call.Goals as goal

pub returns-clause-found : goal.returns-clause-found
returns-clause-found c =
    call_found c.args.bytes.now c.call_at.result _
    (λ i. omega (arith, c.type_inv.bytes i)) refl c.call_at.ensures

pub returns-clause-only : goal.returns-clause-only
returns-clause-only c =
    λ m rest said. call_only c.args.bytes.now c.call_at.result _ m rest refl c.call_at.ensures said
