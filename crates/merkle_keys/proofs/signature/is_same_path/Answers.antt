use Rattle.std.specs.Cmp.Lexicographic.{pointwise_decides, bytes_decides}
use Rattle.merkle_keys.proofs.signature.is_same_path.Goals as goal

-- paths are the same where each of their hashes is
pub returns : goal.returns
returns c = rw c.eq.ensures (pointwise_decides bytes_decides c.args.one.now c.args.other.now)
