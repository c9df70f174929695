use Rattle.std.proofs.Common.{Some}
use Rattle.acceptance_witness.proofs.OneSlot.{given_back}
use Rattle.acceptance_witness.proofs.handing.finds_nothing.Goals as goal

-- a worker that took a job and gave it back holds nothing
pub returns : goal.returns
returns c =
    given_back c.args.hand_off.now (Some c.in-Some.job) c.args.worker.now c.take.new.worker c.done-given.new.worker
    c.requires.idle c.in-Some.ensures.taken c.in-Ok.ensures.given
