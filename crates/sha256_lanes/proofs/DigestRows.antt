-- A row of digests as far as it is set.
-- Serves: set_rest.
use Rattle.std.proofs.Common.{◌≡◌, ℕ, zero, suc, ◌<◌, ◌≤◌, List, [], ◌∷◌, length, get_or, map, refl, sym, ◌∙◌}
use Rattle.std.proofs.Common.{arith}
use Rattle.std.proofs.lemmas.List.{ext_get_or, length-map}
use Rattle.sha2.specs.Sha256.{sha256}
use Rattle.sha256_lanes.specs.Rows.{HasDigests}

-- a place of the whole row
digest_at : (messages : List (List ℕ)) (k : ℕ) → k < length messages
    → get_or (map sha256 messages) k [] ≡ sha256 (get_or messages k [])
digest_at [] k h = absurd (omega arith)
digest_at (m ∷ messages) zero h = refl
digest_at (m ∷ messages) (suc k) h = digest_at messages k (omega arith)

-- a row that is set to its end is whole
pub whole_row : (messages digests : List (List ℕ)) (n : ℕ) → length messages ≤ n
    → HasDigests messages digests n → digests ≡ map sha256 messages
whole_row messages digests n all held =
    let size : length digests ≡ length messages = held.size in
    ext_get_or [] digests (map sha256 messages) (size ∙ sym (length-map messages sha256))
    (λ k h. held.each k (omega arith) ∙ sym (digest_at messages k (omega arith)))
