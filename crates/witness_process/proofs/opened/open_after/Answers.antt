use Rattle.witness_process.proofs.OfListed.{listed_more}
use Rattle.witness_process.proofs.opened.open_after.Goals as goal

pub loop-challenge-preserved : goal.loop-challenge-preserved
loop-challenge-preserved c =
    listed_more c.args.before.now c.args.time c.args.challenges.now c.loop-challenge.challenge-index
    c.challenge-item.result c.loop-challenge.listed.items _ _ c.loop-challenge-test.true c.challenge-item.is
    (record { wanted = c.of-wanted.ensures; since = c.since_of-since.ensures })
    c.in_ok-push.ensures.items c.loop-challenge.invariant
