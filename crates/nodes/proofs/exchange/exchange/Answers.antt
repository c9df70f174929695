use Rattle.std.proofs.Common.{inr}
use Rattle.nodes.proofs.OfExchanges.Answered.{asked_joined, none_due, replied_joined, reply_due}
use Rattle.nodes.proofs.Unjoined.{reply_shown, served_it}
use Rattle.nodes.proofs.exchange.exchange.Goals as goal

-- ---- any two

pub returns-in-None-clause-served : goal.returns-in-None-clause-served
returns-in-None-clause-served c = λ plain.
    none_due c.args.client.now c.args.server.now c.ask.new.client c.ask.new.server c.args.time c.args.bytes.now
    c.in_ok-receipt.receipt c.in_ok-receipt.ensures.told c.in-None.is

pub returns-in-Ok-clause-carried : goal.returns-in-Ok-clause-carried
returns-in-Ok-clause-carried c =
    let shown = reply_shown c.args.client.now c.args.server.now c.ask.new.client c.ask.new.server c.args.time
    c.args.bytes.now c.in_ok-receipt.receipt c.in-Some.number c.in_ok-receipt.ensures.told
    c.in_ok-receipt.ensures.sender c.in-Some.is in (
      c.in-Some.number,
      (
        c.ask.new.client,
        (
          c.ask.new.server,
          (
            record {
              receipt = c.in_ok-receipt.receipt;
              asked = c.in_ok-receipt.ensures.told;
              owed = c.in-Some.is;
            },
            c.in-Ok.ensures.replied shown.envelope shown.there,
          ),
        ),
      ),
    )

pub returns-in-Ok-clause-served : goal.returns-in-Ok-clause-served
returns-in-Ok-clause-served c = λ plain.
    let shown = reply_shown c.args.client.now c.args.server.now c.ask.new.client c.ask.new.server c.args.time
    c.args.bytes.now c.in_ok-receipt.receipt c.in-Some.number c.in_ok-receipt.ensures.told
    c.in_ok-receipt.ensures.sender c.in-Some.is in
    served_it c.ask.new.client c.args.server.now c.ask.new.server c.bring_back.new.client c.bring_back.new.server
    c.args.time c.args.bytes.now c.in-Some.number c.in-Ok.reply.items shown plain
    (c.in-Ok.ensures.replied shown.envelope shown.there)

pub returns-in-Err-clause-told : goal.returns-in-Err-clause-told
returns-in-Err-clause-told c =
    let shown = reply_shown c.args.client.now c.args.server.now c.ask.new.client c.ask.new.server c.args.time
    c.args.bytes.now c.in_ok-receipt.receipt c.in-Some.number c.in_ok-receipt.ensures.told
    c.in_ok-receipt.ensures.sender c.in-Some.is in
    inr (
      c.in-Some.number,
      (
        c.ask.new.client,
        (
          c.ask.new.server,
          (
            record {
              receipt = c.in_ok-receipt.receipt;
              asked = c.in_ok-receipt.ensures.told;
              owed = c.in-Some.is;
            },
            c.in-Err.ensures.told shown.envelope shown.there,
          ),
        ),
      ),
    )

-- ---- two that are joined

pub returns-in-None-clause-joined : goal.returns-in-None-clause-joined
returns-in-None-clause-joined c = λ joined.
    asked_joined c.args.client.now c.args.server.now c.ask.new.client c.ask.new.server c.args.time c.args.bytes.now
    c.in_ok-receipt.receipt joined c.in_ok-receipt.ensures.told

pub returns-in-Ok-clause-joined : goal.returns-in-Ok-clause-joined
returns-in-Ok-clause-joined c = λ joined.
    let ready = reply_due c.args.client.now c.args.server.now c.ask.new.client c.ask.new.server c.args.time
    c.args.bytes.now c.in_ok-receipt.receipt c.in-Some.number joined c.in_ok-receipt.ensures.told
    c.in_ok-receipt.ensures.sender c.in-Some.is in
    replied_joined c.ask.new.client c.ask.new.server c.bring_back.new.client c.bring_back.new.server c.in-Some.number
    c.in-Ok.reply.items
    (asked_joined c.args.client.now c.args.server.now c.ask.new.client c.ask.new.server c.args.time c.args.bytes.now
    c.in_ok-receipt.receipt joined c.in_ok-receipt.ensures.told) ready.ready
    (c.in-Ok.ensures.replied ready.ready.envelope ready.ready.reaches.envelope)

pub returns-in-Err-clause-stops : goal.returns-in-Err-clause-stops
returns-in-Err-clause-stops c = λ joined.
    let ready = reply_due c.args.client.now c.args.server.now c.ask.new.client c.ask.new.server c.args.time
    c.args.bytes.now c.in_ok-receipt.receipt c.in-Some.number joined c.in_ok-receipt.ensures.told
    c.in_ok-receipt.ensures.sender c.in-Some.is in
    inr (
      c.in-Some.number,
      (
        c.ask.new.client,
        (
          c.ask.new.server,
          (
            record {
              receipt = c.in_ok-receipt.receipt;
              asked = c.in_ok-receipt.ensures.told;
              owed = c.in-Some.is;
            },
            c.in-Err.ensures.stops ready.ready,
          ),
        ),
      ),
    )
