use Rattle.nfs_count_laws.proofs.Linking.{kept_by_link}
use Rattle.nfs_count_laws.proofs.laws.linking_counts_one_name_more.Goals as goal

-- the law
pub returns : goal.returns
returns c = kept_by_link
