use Rattle.nfs_count_laws.proofs.Unlinking.{last_name_told, kept_by_unlink}
use Rattle.nfs_count_laws.proofs.laws.unlinking_counts_one_name_less.Goals as goal

pub returns-clause-last : goal.returns-clause-last
returns-clause-last c = last_name_told

pub returns-clause-unlink : goal.returns-clause-unlink
returns-clause-unlink c = kept_by_unlink
