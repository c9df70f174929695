use Rattle.std.proofs.Common.{◌≡◌, length, arith, refl, ◌∙◌}
use Rattle.sha256_lanes.proofs.OneBlock.{block_is_last}
use Rattle.sha256_lanes.proofs.blocks.last_block.Goals as goal

-- the block ends the padded message
pub returns : goal.returns
returns g c =
    let rest = c.args.rest.now in
    let size : length rest ≡ g.row.N = omega arith in
    block_is_last g.row.N c.args.bits rest _ _ _ (omega arith) size c.copy_from_slice.ensures.after refl
    (c.copy_from_slice-2.ensures.after ∙ c.to_be_bytes.ensures)
