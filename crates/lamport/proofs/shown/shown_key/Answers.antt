use Rattle.std.proofs.Common.{◌≡◌, arith, append_assoc}
use Rattle.lamport.specs.declared.key.TheConstants.{PLACES}
use Rattle.lamport.proofs.LeafTexts.{leaf_front_none, leaf_front_more, leaf_front_all, shown_pair}
use Rattle.lamport.proofs.shown.shown_key.Goals as goal

pub loop-place-init : goal.loop-place-init
loop-place-init c = rw leaf_front_none c.leaf_start-text.ensures

pub loop-place-preserved : goal.loop-place-preserved
loop-place-preserved c =
    let whole = c.add_place.ensures _ c.loop-place.invariant in
    let hash = c.piece_hashes-hashes.ensures c.loop-place.place (omega arith) in
    rw (
      leaf_front_more,
      append_assoc,
      shown_pair,
      ← c.digest_bit-bit.ensures,
      ← c.piece.ensures.bytes,
      ← hash,
    ) whole

-- after all places the text is the leaf's that the signature gives
pub returns : goal.returns
returns c =
    let all : c.loop-place.place ≡ PLACES = omega arith in
    let whole = c.finalize.ensures _ c.loop-place.invariant in
    rw (leaf_front_all, ← all) whole
