-- The texts of four leaves, made side by side.
use Rattle.std.specs.Prelude.{◌≡◌, ℕ, List, [], ◌∷◌, ◌++◌, slice_index}
use Rattle.sha256_lanes.specs.LongMessages.{HoldsBlocks}
use Rattle.lamport.specs.declared.leaves.LeafTexts.{LeafTexts}

-- the text of lane l, as far as it is made, is m: whole blocks and one byte
pub record HoldsText (s : LeafTexts) (l : ℕ) (m : List ℕ) : Type 0 where
  pub whole : List ℕ
  pub blocks : HoldsBlocks s.blocks l whole
  pub text : m ≡ whole ++ slice_index s.last l ∷ []
