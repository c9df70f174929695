use Rattle.std.proofs.Common.{ℕ, List, [], get_or, map, ap, ◌∙◌, arith}
use Rattle.sha2.specs.Sha256.{sha256}
use Rattle.lamport.proofs.LeafTexts.{chunk_hash}
use Rattle.lamport.proofs.shown.piece_hashes.Goals as goal

-- each chunk is the piece of its place
pub returns : goal.returns
returns c = λ place h.
    let row = c.digest_row.ensures ∙ ap (map sha256) c.as_chunks.ensures.front in
    ap (λ (l : List (List ℕ)). get_or l place []) row ∙ chunk_hash _ c.args.bytes.now place (omega arith)
