use Rattle.std.proofs.Common.{◌≡◌, ℕ, ◌+◌, ◌-◌, ◌*◌, ◌%◌, ◌^◌, List, ◌∷◌, length, replicate, take, arith}
use Rattle.std.proofs.Common.{refl, ap, ◌∙◌}
use Rattle.std.specs.Int.{w64, to_be_bytes}
use Rattle.sha256_lanes.proofs.PieceByPiece.{digest_of_padded, padding_before}
use Rattle.sha256_lanes.proofs.one_message.OneMessage.finalize.Goals as goal

-- the message and its padding are taken in
pub returns : goal.returns
returns c = λ m holds.
    let z : ℕ = (119 - length m % 64) % 64 in
    let zeros : c.padding_length-zeros.result ≡ z + 1 = omega (arith, holds.count, c.used.ensures) in
    let bits : c.args.self.length * 8 % 2 ^ 64 ≡ length m * 8 % 2 ^ 64 = omega (arith, holds.count) in
    let bytes : List ℕ = 0x80 ∷ replicate 63 0 in
    let before = ap (λ (n : ℕ). take n bytes) zeros ∙ padding_before z bytes (omega arith) refl in
    let number = c.to_be_bytes.ensures ∙ ap (to_be_bytes w64) bits in
    let padded = c.update-2.ensures _ (c.update.ensures m holds) in
    c.digest_of.ensures
    ∙ digest_of_padded m _ _ c.last_hash.result before number (c.last_hash.ensures _ padded)
