use Rattle.std.proofs.Common.{◌≡◌, ℕ, ◌*◌, List, length, take}
use Rattle.sha2.specs.Sha256.{digest_bytes}
use Rattle.sha256_lanes.specs.Lanes.{IsHashOf}
use Rattle.sha256_lanes.proofs.blocks.digest.Given as goal

abbrev pub invariant-words : goal.invariant-words
invariant-words l = record {
  size : length l.bytes ≡ 32;
  written : (h : List ℕ) → IsHashOf h l.hashes l.l → take (4 * l.i) l.bytes ≡ digest_bytes h l.i;
}
