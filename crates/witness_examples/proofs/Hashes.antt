-- A hash has 32 bytes, and so isn't one of another length.
-- Serves: by_an_answer, of_a_segment, of_an_opening, up_to_the_end.
use Rattle.std.proofs.Common.{◌≡◌, ℕ, false, List, [], ◌∷◌, length, ap, arith}
use Rattle.sha2.proofs.Facts256.{length-sha256}
use Rattle.authenticator.proofs.Signed.{is_false, same_list}
use Rattle.secure_log.specs.LogEntries.Chain.{Link, chain_text, hash_after}
use Rattle.authenticator.specs.Signing.{is_same}

-- its length
pub hash_length : (before : List ℕ) (link : Link) → length (hash_after before link) ≡ 32
unfolding hash_after
hash_length before link = length-sha256 (chain_text before link)

-- a hash after a text of one byte
pub short_first : (n : ℕ) (before : List ℕ) (link : Link) → is_same (n ∷ []) (hash_after before link) ≡ false
short_first n before link =
    is_false (is_same (n ∷ []) (hash_after before link))
    (λ e. absurd (omega (
      arith,
      ap length (same_list (n ∷ []) (hash_after before link) e),
      hash_length before
          link,
    )))

-- and before it
pub short_last : (n : ℕ) (before : List ℕ) (link : Link) → is_same (hash_after before link) (n ∷ []) ≡ false
short_last n before link =
    is_false (is_same (hash_after before link) (n ∷ []))
    (λ e. absurd (omega (
      arith,
      ap length (same_list (hash_after before link) (n ∷ []) e),
      hash_length before
          link,
    )))
