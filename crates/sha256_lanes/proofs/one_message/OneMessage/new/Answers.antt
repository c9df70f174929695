use Rattle.std.proofs.Common.{refl}
use Rattle.sha2.specs.Sha256.{hash_after}
use Rattle.sha256_lanes.proofs.one_message.OneMessage.new.Goals as goal

-- nothing is taken in, and nothing held
pub returns : goal.returns
unfolding hash_after
returns c = record { count = refl; hash = refl; held = refl }
