use Rattle.challenge.proofs.based_read.ReadBased.into_replay.Goals as goal

pub returns-in-Worded-clause-none : goal.returns-in-Worded-clause-none
returns-in-Worded-clause-none c = rw c.in-Worded.is c.worded_replay.ensures.none
