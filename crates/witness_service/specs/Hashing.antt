-- How keys are looked up.
use Rattle.std.specs.Prelude.{◌≡◌, ℕ, true, List, [], ◌∷◌, take, drop, nat_eq, refl}
use Rattle.std.proofs.Common.{sym}
use Rattle.std.specs.Cmp.Lexicographic.{pointwise, same_text}
use Rattle.witness_service.specs.declared.key.KeyRef.{KeyRef}
use Rattle.witness_service.specs.declared.key.TheConstants.{LOOKED_UP}
use Rattle.witness_service.specs.Caching.{key_bytes}

-- the bytes of a key whose text is borrowed
abbrev pub ref_bytes : KeyRef → List ℕ
ref_bytes key = key_bytes key.root key.height key.text.now

-- what is hashed of a key's bytes: root, height, and the front of the text
abbrev pub looked_up : List ℕ → List (List ℕ)
looked_up bytes = take 32 bytes ∷ take 4 (drop 32 bytes) ∷ take LOOKED_UP (drop 36 bytes) ∷ []

-- Keys that are the same are looked up by the same bytes.
pub same_look_up : (x y : List ℕ) → pointwise nat_eq x y ≡ true → looked_up x ≡ looked_up y
same_look_up x y same = rw (same_text x y (sym same)) refl
