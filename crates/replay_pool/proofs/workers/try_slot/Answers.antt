use Rattle.std.proofs.Common.{Some}
use Rattle.replay_pool.proofs.Posted.{given_back}
use Rattle.replay_pool.proofs.workers.try_slot.Goals as goal

-- a seat that gave back the job that it took is as before
pub returns : goal.returns
returns g c =
    given_back c.args.hand_off.now c.args.slot (Some c.in-Some.job) c.args.seat.now c.take.new.worker
    c.done-given.new.worker c.requires.idle c.in-Some.ensures.taken c.in-Ok.ensures.given
