use Rattle.nfs_items.proofs.Credentials.{said, spelled, more}
use Rattle.nfs_items.proofs.laws.credentials_say_callers.Goals as goal

pub returns-clause-said : goal.returns-clause-said
returns-clause-said c = said

pub returns-clause-spelled : goal.returns-clause-spelled
returns-clause-spelled c = spelled

pub returns-clause-more : goal.returns-clause-more
returns-clause-more c = more
