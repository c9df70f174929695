use Rattle.evidence_showings.proofs.base_read.ReadBase.into_base.Goals as goal

pub returns-in-Worded-clause-follow : goal.returns-in-Worded-clause-follow
returns-in-Worded-clause-follow c = rw c.in-Worded.is c.into_base-in-Worded.ensures.some

pub returns-in-Worded-clause-none : goal.returns-in-Worded-clause-none
returns-in-Worded-clause-none c = rw c.in-Worded.is c.into_base-in-Worded.ensures.none
