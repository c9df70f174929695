use Rattle.std.proofs.Common.{rules, ◌≡◌, arith, ap, sym, ◌∙◌}
use Rattle.std.proofs.lemmas.List.{take_all}
use Rattle.std.proofs.lemmas.Slice.{overwrites}
use Rattle.std.specs.Int.{w32, to_be_bytes}
use Rattle.sha2.specs.Sha256.{digest_bytes}
use Rattle.sha2.proofs.Absorbing256.{digest_more}
use Rattle.sha256_lanes.proofs.blocks.digest.Goals as goal

pub words-init : goal.words-init
unfolding digest_bytes
words-init c = search rules

-- the next word's bytes follow
pub words-preserved : goal.words-preserved
words-preserved c = record {
  size = search (rules, overwrites);
  written = λ h held.
      let bytes = c.copy_from_slice.ensures.after ∙ c.to_be_bytes.ensures in
      let before = c.words.invariant.written h held in
      digest_more c.words.bytes h _ c.words.i _ before (omega arith)
      (bytes ∙ ap (to_be_bytes w32) (held c.words.i (omega arith)));
}

-- eight words are all bytes
pub returns : goal.returns
returns c = λ h held.
    let all : c.words.i ≡ 8 = omega arith in
    let whole = rw all at c.words.invariant.written h held in
    sym (take_all 32 c.words.bytes (omega arith)) ∙ whole
