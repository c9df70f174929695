use Rattle.std.proofs.Common.{◌≡◌, ◌∙◌, sym, subst, true, false}
use Rattle.std.specs.Prelude.{IfErr}
use Rattle.nodes.specs.Shareds.{SharedParts, StopsExchange}
use Rattle.serving.specs.Links.{LacksKeysOfACall}
use Rattle.serving.proofs.Links.{stopped}
use Rattle.serving.proofs.link.ClientLinkLink.exchange.Goals as goal

pub returns-clause-failed : goal.returns-clause-failed
returns-clause-failed g c =
    let left : ¬ LacksKeysOfACall c.args.self.now =
    λ x. let is : c.lacks_keys.result ≡ true = c.lacks_keys.ensures.1 x in
    let both : true ≡ false = sym is ∙ c.if-lacks_keys.false in absurd cc in
    stopped c.args.self.now c.args.time c.args.bytes.now c.exchange.result c.exchange.new.self left
    (subst (λ (d : SharedParts). IfErr c.exchange.result (λ e.
    StopsExchange d c.args.time c.args.bytes.now e c.exchange.new.self)) c.self.view_is c.exchange.ensures.failed)
