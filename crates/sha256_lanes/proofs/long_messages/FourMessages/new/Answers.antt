use Rattle.std.proofs.Common.{refl}
use Rattle.sha2.specs.Sha256.{hash_after}
use Rattle.sha256_lanes.proofs.long_messages.FourMessages.new.Goals as goal

-- before the first block stands the initial hash value
pub returns : goal.returns
unfolding hash_after
returns c = λ l lane. record { whole = refl; count = refl; hash = c.initial_hashes.ensures l lane }
