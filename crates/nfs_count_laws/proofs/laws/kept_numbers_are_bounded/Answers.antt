use Rattle.nfs_count_laws.proofs.Facts.{links_positive, links_bounded, links_of_parent, above_named}
use Rattle.nfs_count_laws.proofs.Facts.{entries_bounded, blocks_bounded}
use Rattle.nfs_count_laws.proofs.laws.kept_numbers_are_bounded.Goals as goal

pub returns-clause-some : goal.returns-clause-some
returns-clause-some c = links_positive

pub returns-clause-most : goal.returns-clause-most
returns-clause-most c = links_bounded

pub returns-clause-parent : goal.returns-clause-parent
returns-clause-parent c = links_of_parent

pub returns-clause-above : goal.returns-clause-above
returns-clause-above c = above_named

pub returns-clause-entries : goal.returns-clause-entries
returns-clause-entries c = entries_bounded

pub returns-clause-blocks : goal.returns-clause-blocks
returns-clause-blocks c = blocks_bounded
