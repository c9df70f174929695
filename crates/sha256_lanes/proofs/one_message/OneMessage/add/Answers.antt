use Rattle.std.proofs.Common.{arith, refl}
use Rattle.sha256_lanes.proofs.PieceByPiece.{piece_is_held, piece_is_taken}
use Rattle.sha256_lanes.proofs.one_message.OneMessage.add.Goals as goal

-- the piece fills the room: all that is held is taken in
pub returns-then-end-eq-HELD-clause-message : goal.returns-then-end-eq-HELD-clause-message
returns-then-end-eq-HELD-clause-message c = λ m holds.
    piece_is_taken m c.args.piece.now c.copy_from_slice.new.self c.used-used.result _ c.args.self.now _ holds
    (omega arith) (omega arith) c.copy_from_slice.ensures.after (omega arith) (omega arith) refl
    c.hash_value_after-self.ensures refl

-- the piece is held
pub returns-else-end-eq-HELD-clause-message : goal.returns-else-end-eq-HELD-clause-message
returns-else-end-eq-HELD-clause-message c = λ m holds.
    piece_is_held m c.args.piece.now c.copy_from_slice.new.self c.used-used.result _ c.args.self.now _ holds
    (omega arith) (omega arith) c.copy_from_slice.ensures.after (omega arith) refl refl refl
