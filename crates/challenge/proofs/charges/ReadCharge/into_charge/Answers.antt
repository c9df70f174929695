use Rattle.challenge.proofs.Logs.{says_no_more}
use Rattle.challenge.proofs.charges.ReadCharge.into_charge.Goals as goal

pub returns-in-Replay-clause-written : goal.returns-in-Replay-clause-written
returns-in-Replay-clause-written c = says_no_more c.in-Replay.log c.fits.ensures

pub returns-in-WordedFork-clause-none : goal.returns-in-WordedFork-clause-none
returns-in-WordedFork-clause-none c = rw c.in-WordedFork.is c.worded_fork.ensures.none

pub returns-in-WordedReplay-clause-none : goal.returns-in-WordedReplay-clause-none
returns-in-WordedReplay-clause-none c = rw c.in-WordedReplay.is c.worded_replay.ensures.none

pub returns-in-Based-clause-none : goal.returns-in-Based-clause-none
returns-in-Based-clause-none c = rw c.in-Based.is c.based_charge.ensures.none
