use Rattle.nfs_count_laws.proofs.OfMoves.Moving.{kept_by_move}
use Rattle.nfs_count_laws.proofs.moves.laws.moving_counts_the_entry_where_it_goes.Goals as goal

-- the law
pub returns : goal.returns
returns c = kept_by_move
