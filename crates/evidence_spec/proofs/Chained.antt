-- What a log's chain begins with. Serves: what_is_shown_is_of_the_log, accepted_evidence_proves.
use Rattle.std.proofs.Common.{◌≡◌, ℕ, length}
use Rattle.std.proofs.lemmas.List.{length-replicate}
use Rattle.replay_spec.specs.secure_log.LogEntries.Chain.{zeros}

-- the hash before the first entry has 32 bytes
pub zeros-length : length zeros ≡ 32
unfolding zeros
zeros-length = length-replicate {A = ℕ} 32 0
