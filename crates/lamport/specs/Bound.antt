-- Keys that are bound to a digest.
use Rattle.std.specs.Prelude.{ℕ, List}
use Rattle.lamport.specs.Lamport.{LeafKey}

-- a key, and the one digest that it signs
pub record BoundLeaf : Type 0 where
  pub key : LeafKey
  pub digest : List ℕ
