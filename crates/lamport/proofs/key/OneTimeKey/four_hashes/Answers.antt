use Rattle.std.proofs.Common.{map, ap, ◌∙◌}
use Rattle.sha2.specs.Sha256.{sha256}
use Rattle.lamport.specs.Lamport.{public_hash}
use Rattle.lamport.proofs.key.OneTimeKey.four_hashes.Goals as goal

-- the hashes are those of the four secrets
pub returns : goal.returns
unfolding public_hash
returns c = λ bit held. c.digest_4.ensures ∙ ap (map sha256) (c.four_secrets.ensures bit held)
