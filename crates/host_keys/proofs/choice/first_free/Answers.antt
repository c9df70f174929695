use Rattle.std.proofs.Common.{◌≡◌, true, sym, ◌∙◌, arith}
use Rattle.host_keys.specs.Spent.{has_begun}
use Rattle.host_keys.proofs.SpentLaws.{up_to}
use Rattle.host_keys.proofs.choice.first_free.Goals as goal

pub loop-node-preserved : goal.loop-node-preserved
loop-node-preserved c k low below =
    up_to (λ n. has_begun c.args.begun.now c.args.epoch n
    ≡ true) c.args.first c.loop-node.node c.loop-node.invariant
    (sym c.has_begun.ensures ∙ c.if-not-has_begun.false) k low below

pub returns-clause-none : goal.returns-clause-none
returns-clause-none c k low high = c.loop-node.invariant k low (omega arith)
