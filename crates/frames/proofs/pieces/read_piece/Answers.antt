use Rattle.std.proofs.Common.{rules}
use Rattle.frames.proofs.OfStops.{stops_unread}
use Rattle.frames.proofs.pieces.read_piece.Goals as goal

pub returns-then-is_err-clause-stopped : goal.returns-then-is_err-clause-stopped
returns-then-is_err-clause-stopped g c = stops_unread _ _ _ (search rules)
