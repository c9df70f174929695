use Rattle.std.proofs.Common.{◌≡◌, ◌<◌, ◌++◌, ℕ, List, [], ◌∷◌, get_or, refl, arith}
use Rattle.sha2.specs.Sha256.{sha256}
use Rattle.sha256_lanes.specs.LongMessages.{HoldsBlocks}
use Rattle.sha256_lanes.proofs.OneBlock.{digest_of_lane, each_lane}
use Rattle.sha256_lanes.proofs.long_messages.FourMessages.finalize.Goals as goal

-- each lane's digest is that of its whole message
pub returns : goal.returns
returns g c = λ l m lane held.
    let rest = c.args.rest.now in
    let digests = c.digest.result ∷ c.digest-2.result ∷ c.digest-3.result ∷ c.digest-4.result ∷ [] in
    let Is = λ (l : ℕ). HoldsBlocks c.args.self l m
    → get_or digests l [] ≡ sha256 (m ++ get_or rest l []) in
    let next = λ (l : ℕ) (low : l < 4) (h b : List ℕ). c.hash_values-hashes.ensures l h b low in
    let block = c.words_of-words.ensures in
    let a : Is 0 =
    λ own. digest_of_lane 0 g.row.N _ m _ c.last_block.result _ _ _ c.args.self own c.requires refl
    c.last_block.ensures (block 0 (omega arith)) (next 0 (omega arith)) c.digest.ensures in
    let b : Is 1 =
    λ own. digest_of_lane 1 g.row.N _ m _ c.last_block-2.result _ _ _ c.args.self own c.requires refl
    c.last_block-2.ensures (block 1 (omega arith)) (next 1 (omega arith)) c.digest-2.ensures in
    let d : Is 2 =
    λ own. digest_of_lane 2 g.row.N _ m _ c.last_block-3.result _ _ _ c.args.self own c.requires refl
    c.last_block-3.ensures (block 2 (omega arith)) (next 2 (omega arith)) c.digest-3.ensures in
    let e : Is 3 =
    λ own. digest_of_lane 3 g.row.N _ m _ c.last_block-4.result _ _ _ c.args.self own c.requires refl
    c.last_block-4.ensures (block 3 (omega arith)) (next 3 (omega arith)) c.digest-4.ensures in
    each_lane Is a b d e l lane held
