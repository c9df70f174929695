use Rattle.nfs_count_laws.proofs.Making.{kept_by_make}
use Rattle.nfs_count_laws.proofs.laws.making_counts_the_new_file.Goals as goal

-- the law
pub returns : goal.returns
returns c = kept_by_make
