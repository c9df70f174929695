use Rattle.nodes.proofs.OfExchanges.Called.{sent_by}
use Rattle.nodes.proofs.Asked.{asks_err, asks_ok, asks_refused, is_heard}
use Rattle.nodes.proofs.Unjoined.{asked_it, heard_it, is_sent, not_asked, not_heard}
use Rattle.nodes.proofs.exchange.ask.Goals as goal

pub returns-in-Err-clause-asks : goal.returns-in-Err-clause-asks
returns-in-Err-clause-asks c = λ joined.
    let sent = sent_by c.args.client.now c.args.server.now c.number.result c.args.bytes.now c.send.new.client
    c.in_ok-number.number joined c.number.ensures c.in_ok-number.ensures.sends
    c.in_ok-number.ensures.sender in
    asks_err c.args.client.now c.args.server.now c.args.time c.args.bytes.now c.send.new.client
    c.deliver_call.new.server c.in_ok-number.number c.in-Err.fault sent c.in-Err.ensures.receives

pub returns-in-Ok-acknowledge_call-clause-asks : goal.returns-in-Ok-acknowledge_call-clause-asks
returns-in-Ok-acknowledge_call-clause-asks c = λ joined.
    let sent = sent_by c.args.client.now c.args.server.now c.number.result c.args.bytes.now c.send.new.client
    c.in_ok-number.number joined c.number.ensures c.in_ok-number.ensures.sends
    c.in_ok-number.ensures.sender in
    let heard = is_heard c.args.client.now c.args.server.now c.args.time c.args.bytes.now c.send.new.client
    c.deliver_call.new.server c.in_ok-number.number c.in-Ok.receipt sent c.in-Ok.ensures.receives in
    asks_ok c.args.client.now c.args.server.now c.args.time c.args.bytes.now c.send.new.client
    c.deliver_call.new.server c.acknowledge_call.new.client c.in_ok-number.number c.in-Ok.receipt joined
    sent heard c.in-Ok.ensures.sender c.in-Ok-acknowledge_call.ensures.takes

pub returns-in-Err-acknowledge_call-clause-asks : goal.returns-in-Err-acknowledge_call-clause-asks
returns-in-Err-acknowledge_call-clause-asks c = λ joined.
    let sent = sent_by c.args.client.now c.args.server.now c.number.result c.args.bytes.now c.send.new.client
    c.in_ok-number.number joined c.number.ensures c.in_ok-number.ensures.sends
    c.in_ok-number.ensures.sender in
    let heard = is_heard c.args.client.now c.args.server.now c.args.time c.args.bytes.now c.send.new.client
    c.deliver_call.new.server c.in_ok-number.number c.in-Ok.receipt sent c.in-Ok.ensures.receives in
    asks_refused c.args.client.now c.args.server.now c.args.time c.args.bytes.now c.send.new.client
    c.deliver_call.new.server c.acknowledge_call.new.client c.in_ok-number.number c.in-Ok.receipt
    c.in-Err-acknowledge_call.fault joined sent heard c.in-Ok.ensures.sender
    c.in-Err-acknowledge_call.ensures.takes

-- ---- any two

pub returns-in-Err-clause-told : goal.returns-in-Err-clause-told
returns-in-Err-clause-told c =
    let sent = is_sent c.args.client.now c.args.server.now c.number.result c.args.bytes.now c.send.new.client
    c.in_ok-number.number c.number.ensures c.in_ok-number.ensures.sends c.in_ok-number.ensures.sender in
    not_heard c.args.client.now c.args.server.now c.args.time c.args.bytes.now c.send.new.client
    c.deliver_call.new.server c.in_ok-number.number c.deliver_call.new.text.items c.in-Err.fault sent c.in-Err.ensures.told

pub returns-in-Ok-acknowledge_call-clause-told : goal.returns-in-Ok-acknowledge_call-clause-told
returns-in-Ok-acknowledge_call-clause-told c =
    let sent = is_sent c.args.client.now c.args.server.now c.number.result c.args.bytes.now c.send.new.client
    c.in_ok-number.number c.number.ensures c.in_ok-number.ensures.sends c.in_ok-number.ensures.sender in
    let heard = heard_it c.args.client.now c.args.server.now c.args.time c.args.bytes.now c.send.new.client
    c.deliver_call.new.server c.in_ok-number.number c.deliver_call.new.text.items c.in-Ok.receipt sent
    c.in-Ok.ensures.told in
    asked_it c.args.client.now c.args.server.now c.args.time c.args.bytes.now c.send.new.client
    c.deliver_call.new.server c.acknowledge_call.new.client c.in_ok-number.number c.in-Ok.receipt sent heard
    c.in-Ok.ensures.sender c.in-Ok-acknowledge_call.ensures.told

pub returns-in-Err-acknowledge_call-clause-told : goal.returns-in-Err-acknowledge_call-clause-told
returns-in-Err-acknowledge_call-clause-told c =
    let sent = is_sent c.args.client.now c.args.server.now c.number.result c.args.bytes.now c.send.new.client
    c.in_ok-number.number c.number.ensures c.in_ok-number.ensures.sends c.in_ok-number.ensures.sender in
    let heard = heard_it c.args.client.now c.args.server.now c.args.time c.args.bytes.now c.send.new.client
    c.deliver_call.new.server c.in_ok-number.number c.deliver_call.new.text.items c.in-Ok.receipt sent
    c.in-Ok.ensures.told in
    not_asked c.args.client.now c.args.server.now c.args.time c.args.bytes.now c.send.new.client
    c.deliver_call.new.server c.acknowledge_call.new.client c.in_ok-number.number c.in-Ok.receipt
    c.in-Err-acknowledge_call.fault sent heard c.in-Ok.ensures.sender c.in-Err-acknowledge_call.ensures.told
