use Rattle.challenge.proofs.write.add_charge.Goals as goal

pub returns-in-Fork : goal.returns-in-Fork
returns-in-Fork c = rw c.in-Fork.is c.add_fork.ensures

pub returns-in-Replay : goal.returns-in-Replay
returns-in-Replay c = rw c.in-Replay.is c.add_replay.ensures

pub returns-in-Based : goal.returns-in-Based
returns-in-Based c = rw c.in-Based.is c.add_based.ensures
