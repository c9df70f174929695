use Rattle.witness_service.proofs.Keys.{put_holds, put_uses}
use Rattle.witness_service.proofs.cache.put.Goals as goal

pub returns-clause-holds : goal.returns-clause-holds
returns-clause-holds c =
    put_holds c.put.result c.args.capacity c.args.kept.now c.put.new.self c.args.key c.requires.holds
    c.requires.own c.put.ensures.entries c.put.ensures.err

pub returns-clause-keys : goal.returns-clause-keys
returns-clause-keys c =
    put_uses c.put.result c.args.capacity c.args.kept.now c.put.new.self c.args.key c.requires.holds
    c.requires.new c.put.ensures.entries c.put.ensures.err
