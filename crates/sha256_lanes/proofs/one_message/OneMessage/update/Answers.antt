use Rattle.std.proofs.Common.{◌≡◌, ℕ, ◌+◌, ◌-◌, ◌*◌, ◌/◌, length, take, drop, arith, ap, subst, ◌∙◌}
use Rattle.std.proofs.lemmas.List.{take_rest}
use Rattle.sha256_lanes.specs.OneMessage.{HoldsMessage}
use Rattle.sha256_lanes.proofs.PieceByPiece.{more_of_piece, rest_of_piece}
use Rattle.sha256_lanes.proofs.one_message.OneMessage.update.Goals as goal

-- four blocks more
pub fours-preserved : goal.fours-preserved
fours-preserved c =
    let a : ℕ = 256 - c.used-room.result + 256 * c.fours.i in
    let width : a + 256 - a ≡ 256 = omega arith in
    record {
      none = omega (arith, c.add-in-fours.ensures.count, c.fours.invariant.none);
      holds = λ m holds.
          subst (HoldsMessage c.add-in-fours.new.self)
          (more_of_piece m c.args.data.now _ a 256 _ (omega arith)
          (ap (λ (n : ℕ). take n (drop a c.args.data.now)) width))
          (c.add-in-fours.ensures.message _ (c.fours.invariant.holds m holds));
    }

-- and what is left
pub returns : goal.returns
returns c = λ m holds.
    let d = c.args.data.now in
    let room : ℕ = 256 - c.used-room.result in
    let a : ℕ = room + 256 * c.fours.i in
    let end : ℕ = room + 256 * ((length d - room) / 256) in
    let same : end ≡ a = omega arith in
    subst (HoldsMessage c.add-3.new.self)
    (rest_of_piece m d _ a (take_rest d end ∙ ap (λ (k : ℕ). drop k d) same))
    (c.add-3.ensures.message _ (c.fours.invariant.holds m holds))
