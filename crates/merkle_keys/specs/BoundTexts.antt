-- What a key that is bound to a digest makes of it.
use Rattle.std.specs.Prelude.{◌≡◌, ℕ, List}
use Rattle.lamport.specs.Bound.{BoundLeaf}
use Rattle.lamport.specs.Lamport.{shown_secrets, other_hashes}

-- two texts are what a key makes of the digest to which it is bound
abbrev pub AreOf : (shown other : List ℕ) (key : BoundLeaf) → Type 0
AreOf shown other key =
    (shown ≡ shown_secrets key.key key.digest) × (other ≡ other_hashes key.key key.digest)
