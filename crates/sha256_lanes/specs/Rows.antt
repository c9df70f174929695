-- Digests of a row of messages, each in the place of its message.
use Rattle.std.specs.Prelude.{◌≡◌, ℕ, ◌<◌, List, [], length, slice_index_or}
use Rattle.sha2.specs.Sha256.{sha256}

-- as many as the messages, of which the first n are their digests
pub record HasDigests (messages digests : List (List ℕ)) (n : ℕ) : Type 0 where
  pub size : length digests ≡ length messages
  pub each : (k : ℕ) → k < n → slice_index_or digests k [] ≡ sha256 (slice_index_or messages k [])
