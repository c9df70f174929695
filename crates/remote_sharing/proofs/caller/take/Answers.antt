use Rattle.std.specs.Option.{option_map}
use Rattle.remote_sharing.proofs.UnderLock.{exchanged_under_lock, unaccepted}
use Rattle.remote_sharing.proofs.caller.take.Goals as goal

pub returns-clause-exchanged : goal.returns-clause-exchanged
returns-clause-exchanged c =
    exchanged_under_lock (λ v. v.items) c.args.client.now c.accept.new.self c.args.bytes.now
    c.args.call.now.pending.number c.deref-2.result.now (option_map (λ b. b.now) c.reply_in-came.result)
    c.accept.new.receipt.items c.accept.result c.requires
    (c.is_in_flight.ensures.0 c.if-not-is_in_flight.false)
    c.accept.ensures.honest c.accept.ensures.accepted

pub returns-clause-refused : goal.returns-clause-refused
returns-clause-refused c =
    unaccepted c.args.client.now c.accept.new.self c.args.bytes.now c.args.call.now.pending.number
    c.deref-2.result.now (option_map (λ b. b.now) c.reply_in-came.result) c.accept.result c.requires
    (c.is_in_flight.ensures.0 c.if-not-is_in_flight.false)
    c.accept.ensures.honest c.accept.ensures.refused
