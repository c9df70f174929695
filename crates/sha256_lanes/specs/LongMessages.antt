-- Four messages of many blocks, taken in side by side.
use Rattle.std.specs.Prelude.{◌≡◌, ℕ, ◌/◌, ◌%◌, ◌^◌, List, length}
use Rattle.sha2.specs.Sha256.{hash_after, initial_hash_256}
use Rattle.sha256_lanes.specs.Lanes.{IsHashOf}
use Rattle.sha256_lanes.specs.declared.long_messages.FourMessages.{FourMessages}

-- the message of lane l, as far as it is taken in, is m: whole blocks
pub record HoldsBlocks (s : FourMessages) (l : ℕ) (m : List ℕ) : Type 0 where
  pub whole : length m % 64 ≡ 0
  pub count : s.length ≡ length m % 2 ^ 64
  pub hash : IsHashOf (hash_after initial_hash_256 m (length m / 64)) s.hashes l
