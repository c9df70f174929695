use Rattle.std.proofs.Common.{rules, ◌≡◌, arith, sym, ◌∙◌}
use Rattle.std.proofs.lemmas.List.{take_all}
use Rattle.std.proofs.lemmas.Slice.{overwrites}
use Rattle.sha2.specs.Sha256.{digest_bytes}
use Rattle.sha2.proofs.Absorbing256.{digest_more}
use Rattle.sha256_lanes.proofs.blocks.digest_of.Goals as goal

pub words-init : goal.words-init
unfolding digest_bytes
words-init c = search rules

-- the next word's bytes follow
pub words-preserved : goal.words-preserved
words-preserved c = record {
  size = search (rules, overwrites);
  written = digest_more c.words.bytes c.args.hash.now _ c.words.i _ c.words.invariant.written (omega arith)
      (c.copy_from_slice.ensures.after ∙ c.to_be_bytes.ensures);
}

-- eight words are all bytes
pub returns : goal.returns
returns c =
    let all : c.words.i ≡ 8 = omega arith in
    let whole = rw all at c.words.invariant.written in
    sym (take_all 32 c.words.bytes (omega arith)) ∙ whole
