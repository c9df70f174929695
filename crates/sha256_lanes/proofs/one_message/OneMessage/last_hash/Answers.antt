use Rattle.std.proofs.Common.{◌∙◌, arith}
use Rattle.sha256_lanes.proofs.PieceByPiece.{hash_of_rest}
use Rattle.sha256_lanes.proofs.one_message.OneMessage.last_hash.Goals as goal

-- what is held are the last whole blocks
pub returns : goal.returns
returns c = λ m holds.
    c.hash_value_after.ensures ∙ hash_of_rest m c.args.self.now _ holds (omega arith) (omega arith)
