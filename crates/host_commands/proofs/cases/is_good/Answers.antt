use Rattle.std.proofs.Common.{◌≡◌}
use Rattle.std.proofs.lemmas.Result.{IfOk-weaker}
use Rattle.host_commands.proofs.OfCases.{is_good}
use Rattle.host_commands.proofs.cases.is_good.Goals as goal

-- it is of the roster and against the node, and so it is good where its evidence is accepted
pub returns : goal.returns
returns c =
    let own : c.args.roster.now ≡ c.args.case.now.roster =
    c.is_same.ensures.0 (search (c.if-not-is_same.false)) in
    let against : c.args.case.now.evidence.node ≡ c.args.node = search (c.if-node.false, c.node.ensures) in
    IfOk-weaker c.check_evidence.result _ _
    (λ good exact. is_good c.args.roster.now c.args.node c.args.case.now good own against exact)
    c.check_evidence.ensures.exact
