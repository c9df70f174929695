use Rattle.std.proofs.Common.{subst}
use Rattle.std.specs.Prelude.{IfErr}
use Rattle.nodes.specs.Shareds.{SharedParts}
use Rattle.serving.specs.Links.{StopsCall}
use Rattle.serving.proofs.link.CheckingLinkLink.exchange.Goals as goal

-- it stops as the link does
pub returns-clause-failed : goal.returns-clause-failed
returns-clause-failed g c =
    subst (λ (d : SharedParts). IfErr c.exchange-answered.result (λ e.
    StopsCall d c.args.time c.args.bytes.now e c.exchange-answered.new.self)) c.self.view_is
    c.exchange-answered.ensures.failed
