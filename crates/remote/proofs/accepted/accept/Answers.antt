use Rattle.std.proofs.Common.{ap}
use Rattle.std.specs.Option.{option_map}
use Rattle.remote.specs.Remotes.{remote_of}
use Rattle.remote.proofs.Accepting.{is_answered, none_came, not_answered, one_owed, unowed_refused}
use Rattle.remote.proofs.accepted.accept.Goals as goal

pub returns-in_default-xid-clause-refused : goal.returns-in_default-xid-clause-refused
returns-in_default-xid-clause-refused c =
    let call = c.in-Some.ensures.kept in
    unowed_refused (remote_of c.args.client.now c.args.server) (remote_of c.take_ack.new.client c.args.server)
    c.args.number c.args.ack.now (option_map (λ b. b.now) c.args.reply) call.0 c.in-Ok.ack c.in-Some.call
    c.unowed.result (c.in-Ok.ensures.taken c.args.number call.0 call.1.0 call.1.1.word) call.1.1
    c.in_default-xid.is c.unowed.ensures.some

pub returns-in_default-reply-clause-refused : goal.returns-in_default-reply-clause-refused
returns-in_default-reply-clause-refused c =
    let call = c.in-Some.ensures.kept in
    none_came (remote_of c.args.client.now c.args.server) (remote_of c.take_ack.new.client c.args.server)
    c.args.number c.args.ack.now (option_map (λ b. b.now) c.args.reply) call.0 c.in-Ok.ack c.in-Some.call
    c.in-Some-xid.xid (c.in-Ok.ensures.taken c.args.number call.0 call.1.0 call.1.1.word) call.1.1
    c.in-Some-xid.is (ap (option_map (λ b. b.now)) c.in_default-reply.is)

pub returns-in-Ok-take_reply-clause-accepted : goal.returns-in-Ok-take_reply-clause-accepted
returns-in-Ok-take_reply-clause-accepted c =
    let call = c.in-Some.ensures.kept in
    is_answered (remote_of c.args.client.now c.args.server) (remote_of c.take_ack.new.client c.args.server)
    (remote_of c.take_reply.new.client c.args.server) c.args.number c.args.ack.now
    (option_map (λ b. b.now) c.args.reply) call.0 c.in-Ok.ack c.in-Some.call c.in-Some-xid.xid
    c.in-Some-reply.bytes.now c.in-Ok-take_reply.body.items c.take_reply.new.receipt.items
    (c.in-Ok.ensures.taken c.args.number call.0 call.1.0 call.1.1.word) call.1.1 c.in-Some-xid.is
    (ap (option_map (λ b. b.now)) c.in-Some-reply.is)
    (c.in-Ok-take_reply.ensures.taken call.0
    (one_owed call.0 c.in-Some.call c.in-Some-xid.xid call.1.1 c.in-Some-xid.is).1)

pub returns-clause-refused : goal.returns-clause-refused
returns-clause-refused c =
    let call = c.in-Some.ensures.kept in
    not_answered (remote_of c.args.client.now c.args.server) (remote_of c.take_ack.new.client c.args.server)
    (remote_of c.take_reply.new.client c.args.server) c.args.number c.args.ack.now
    (option_map (λ b. b.now) c.args.reply) call.0 c.in-Ok.ack c.in-Some.call c.in-Some-xid.xid
    c.in-Some-reply.bytes.now c.in-Err-take_reply.fault
    (c.in-Ok.ensures.taken c.args.number call.0 call.1.0 call.1.1.word) call.1.1 c.in-Some-xid.is
    (ap (option_map (λ b. b.now)) c.in-Some-reply.is)
    (c.in-Err-take_reply.ensures.refused call.0
    (one_owed call.0 c.in-Some.call c.in-Some-xid.xid call.1.1 c.in-Some-xid.is).1)
