use Rattle.std.proofs.Common.{List, Option, ℕ}
use Rattle.nodes.specs.Sides.{IsAskedOf}
use Rattle.nodes.proofs.UnderLock.{called_with, called_without, mapped_none, mapped_some, not_called_with}
use Rattle.nodes.proofs.locked.call.Goals as goal

pub returns-in-Ok-None-clause-called : goal.returns-in-Ok-None-clause-called
returns-in-Ok-None-clause-called g c =
    called_without c.args.client.now c.args.to c.args.time c.args.bytes.now c.ask.new.texts.reply.items
    c.ask.new.client
    (mapped_none _ c.in-Ok-None.field-0
    (λ (r : Option (List ℕ)). IsAskedOf c.args.client.now c.args.to c.args.time c.args.bytes.now r
    c.ask.new.texts.reply.items c.ask.new.client) c.in-Ok-None.field-0-is c.in-Ok-None.ensures.asked)

pub returns-in-Ok-clause-called : goal.returns-in-Ok-clause-called
returns-in-Ok-clause-called g c =
    called_with c.args.client.now c.args.to c.args.time c.args.bytes.now c.in-Ok-Some.reply.items
    c.ask.new.texts.reply.items c.ask.new.client c.bring_back.new.client
    (mapped_some _ c.in-Ok-Some.field-0 c.in-Ok-Some.reply
    (λ (r : Option (List ℕ)). IsAskedOf c.args.client.now c.args.to c.args.time c.args.bytes.now r
    c.ask.new.texts.reply.items c.ask.new.client) c.in-Ok-Some.field-0-is c.in-Ok-Some.ensures.asked)
    c.in-Ok.ensures.returned

pub returns-in-Err-bring_back-clause-stops : goal.returns-in-Err-bring_back-clause-stops
returns-in-Err-bring_back-clause-stops g c =
    not_called_with c.args.client.now c.args.to c.args.time c.args.bytes.now c.in-Ok-Some.reply.items
    c.ask.new.texts.reply.items c.in-Err-bring_back.fault c.ask.new.client c.bring_back.new.client
    (mapped_some _ c.in-Ok-Some.field-0 c.in-Ok-Some.reply
    (λ (r : Option (List ℕ)). IsAskedOf c.args.client.now c.args.to c.args.time c.args.bytes.now r
    c.ask.new.texts.reply.items c.ask.new.client) c.in-Ok-Some.field-0-is c.in-Ok-Some.ensures.asked)
    c.in-Err-bring_back.ensures.stops
