use Rattle.std.proofs.Common.{[]}
use Rattle.lamport.proofs.shown.leaf_start.Goals as goal

-- one byte after nothing
pub returns : goal.returns
returns c = c.update.ensures [] c.new-text.ensures
