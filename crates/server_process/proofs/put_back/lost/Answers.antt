use Rattle.std.proofs.Common.{ℕ, subst, sym}
use Rattle.node_logs.specs.Nodes.{NodeParts}
use Rattle.nodes.specs.Lost.{IsLost}
use Rattle.server_process.specs.PutBack.{WasSignedBefore}
use Rattle.server_process.proofs.OfPutBack.{is_put_back, not_lost, signed_before, when_none}
use Rattle.server_process.proofs.put_back.lost.Goals as goal

pub returns-in_err-number-clause-none : goal.returns-in_err-number-clause-none
returns-in_err-number-clause-none c =
    when_none c.from_residual.result
    (not_lost c.args.server.now c.args.bytes.now c.args.authenticator.now c.requires
    (subst (λ (n : NodeParts). (number : ℕ) → ¬ IsLost n c.args.authenticator.now number) c.server.ensures.server
    c.in_err-number.ensures.none))

pub invariant_of-result : goal.invariant_of-result
invariant_of-result c =
    is_put_back c.args.server.now c.args.bytes.now c.get.result c.server.ensures.straight
    (subst (λ (number : ℕ). WasSignedBefore c.args.server.now c.args.bytes.now number) (sym c.get.ensures.value)
    (signed_before c.args.server.now c.args.bytes.now c.args.authenticator.now c.in_ok-number.number c.requires
    (subst (λ (n : NodeParts). IsLost n c.args.authenticator.now c.in_ok-number.number) c.server.ensures.server
    c.in_ok-number.ensures.lost)))
