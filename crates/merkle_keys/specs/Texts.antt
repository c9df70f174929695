-- What a signature's two texts are, where they stand and where their key is to make them.
use Rattle.std.specs.Prelude.{ℕ, List}
use Rattle.lamport.specs.Lamport.{shown_secrets, other_hashes}
use Rattle.merkle_keys.specs.declared.texts.Texts.{Texts}
use Rattle.merkle_keys.specs.declared.texts.Texts.TheVariants.{Stored, Bound}

-- the secrets of the digest's bits
abbrev pub shown_in : Texts → List ℕ
shown_in (Stored texts) = texts.shown.items
shown_in (Bound key) = shown_secrets key.key key.digest

-- the hashes beside them
abbrev pub other_in : Texts → List ℕ
other_in (Stored texts) = texts.other.items
other_in (Bound key) = other_hashes key.key key.digest
