-- The master secrets of nodes.
use Rattle.std.specs.Prelude.{ℕ, List, ◌++◌, replicate}
use Rattle.std.specs.Int.{w32, to_be_bytes}
use Rattle.sha2.specs.Sha256.{sha256}
use Rattle.node_keys.specs.declared.masters.Masters.{Masters}
use Rattle.node_keys.specs.declared.masters.Masters.TheVariants.{Known, OfEpoch}

-- A node's master secret: 28 zero bytes and the node's number in four, high byte first; or the digest
-- (FIPS 180-4) of the secret bytes, that number, and the epoch's in four.
abbrev pub master_of : Masters → ℕ → List ℕ
master_of Known node = replicate 28 0 ++ to_be_bytes w32 node
master_of (OfEpoch bytes epoch) node = sha256 (bytes ++ to_be_bytes w32 node ++ to_be_bytes w32 epoch)
