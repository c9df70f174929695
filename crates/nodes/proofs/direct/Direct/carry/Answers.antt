use Rattle.std.proofs.Common.{option_map, subst}
use Rattle.nodes.specs.Directs.{DirectParts, IsExchanged, StopsExchange}
use Rattle.nodes.specs.Exchanges.Exchanges.{IsServed}
use Rattle.nodes.proofs.Stopped.{failed_of, stops}
use Rattle.nodes.proofs.direct.Direct.carry.Goals as goal

pub returns-in-Err-clause-stops : goal.returns-in-Err-clause-stops
returns-in-Err-clause-stops c =
    subst (λ (d : DirectParts). StopsExchange d c.args.time c.args.bytes.now c.in-Err.fault
    (failed_of c.exchange.new.client c.exchange.new.server)) c.self.view_is
    (stops
    (record { client = c.self.inside.client; server = c.self.inside.server; failed = c.self.inside.failed })
    c.args.time c.args.bytes.now c.in-Err.fault c.exchange.new.client c.exchange.new.server c.if-self.false
    (c.in-Err.ensures.stops (c.self.invariant c.if-self.false)))

pub returns-in-Ok-clause-exchanged : goal.returns-in-Ok-clause-exchanged
returns-in-Ok-clause-exchanged c =
    subst (λ (d : DirectParts). IsExchanged d c.args.time c.args.bytes.now (option_map (λ v. v.items) c.in-Ok.reply)
    (record { client = c.exchange.new.client; server = c.exchange.new.server; failed = c.self.inside.failed }))
    c.self.view_is
    (record {
      before = c.if-self.false;
      after = c.if-self.false;
      carried = c.in-Ok.ensures.carried;
    })

pub returns-in-Ok-clause-served : goal.returns-in-Ok-clause-served
returns-in-Ok-clause-served c =
    subst (λ (d : DirectParts). IsServed d.server c.args.time c.args.bytes.now (option_map (λ v. v.items) c.in-Ok.reply)
    c.exchange.new.server) c.self.view_is
    (c.in-Ok.ensures.served (c.self.invariant c.if-self.false).plain)
