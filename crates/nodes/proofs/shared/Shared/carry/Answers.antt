use Rattle.std.proofs.Common.{subst, true}
use Rattle.std.specs.Option.{option_map}
use Rattle.nodes.specs.Shareds.{IsExchanged, SharedParts, StopsExchange}
use Rattle.nodes.proofs.UnderLock.{exchanged, stopped}
use Rattle.nodes.proofs.shared.Shared.carry.Goals as goal

pub returns-in-Ok-clause-exchanged : goal.returns-in-Ok-clause-exchanged
returns-in-Ok-clause-exchanged g c =
    subst (λ (d : SharedParts). IsExchanged d c.args.time c.args.bytes.now (option_map (λ v. v.items) c.in-Ok.reply)
    (record { client = c.call.new.client; to = c.self.inside.to; failed = c.self.inside.failed })) c.self.view_is
    (exchanged
    (record { client = c.self.inside.client; to = c.self.inside.to; failed = c.self.inside.failed }) c.args.time
    c.args.bytes.now (option_map (λ v. v.items) c.in-Ok.reply) c.call.new.client c.self.inside.failed c.if-self.false
    c.if-self.false c.in-Ok.ensures.called)

pub returns-in-Err-clause-stops : goal.returns-in-Err-clause-stops
returns-in-Err-clause-stops g c =
    subst (λ (d : SharedParts). StopsExchange d c.args.time c.args.bytes.now c.in-Err.fault
    (record { client = c.call.new.client; to = c.self.inside.to; failed = true })) c.self.view_is
    (stopped
    (record { client = c.self.inside.client; to = c.self.inside.to; failed = c.self.inside.failed }) c.args.time
    c.args.bytes.now c.in-Err.fault c.call.new.client c.if-self.false c.in-Err.ensures.stops)
