use Rattle.std.proofs.Common.{take, sym, subst}
use Rattle.std.proofs.lemmas.List.{take_all}
use Rattle.std.proofs.lemmas.List.Elements.{All-more, All-same}
use Rattle.witness_process.specs.Answered.{OwnStand}
use Rattle.witness_process.proofs.sets.stand_each.Goals as goal

pub loop-one-preserved : goal.loop-one-preserved
loop-one-preserved c =
    All-more OwnStand c.args.own.now c.loop-one.one-index c.one-item.result c.loop-one-test.true c.loop-one.invariant
    (subst OwnStand c.one-item.is c.stand.ensures)

-- after the last each stands
pub returns : goal.returns
returns c =
    All-same OwnStand c.args.own.now (take c.loop-one.one-index c.args.own.now)
    (sym (take_all c.loop-one.one-index c.args.own.now c.loop-one-test.false)) c.loop-one.invariant
