use Rattle.merkle_keys.proofs.LeafSignatures.{leaf_signature_signs}
use Rattle.merkle_keys.proofs.laws.each_leaf_signs_under_the_root.Goals as goal

-- a leaf's signature is signed under the root
pub returns : goal.returns
returns c = leaf_signature_signs
