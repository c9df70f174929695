-- Two messages' hashes, as they are worked out.
-- Serves: forks_are_forwarded.
use Rattle.std.proofs.Common.{◌≡◌, ℕ, false, List, [], ◌∷◌, refl, ap₂}
use Rattle.sha2.specs.Sha256.{first_words, schedule, rounds, compress, digest_bytes, sha256}
use Rattle.sha2.specs.Sha256 as sha
use Rattle.xdr.specs.Item.{number_spelling}
use Rattle.secure_log.specs.LogEntries.Chain.{zeros, hash_after, chain_text}
use Rattle.secure_log.specs.LogEntries.Messages.{message_hash}
use Rattle.authenticator.specs.Signing.{is_same}
use Rattle.witness_examples.specs.Limits.Audits.{sent_hash}
use Rattle.witness_examples.specs.Limits.Forwarding.{other_sent_hash}

-- the first message's, byte by byte
abbrev pub first_digest : List ℕ
first_digest =
    53 ∷ 185 ∷ 193 ∷ 213 ∷ 38 ∷ 8 ∷ 92 ∷ 178 ∷ 220 ∷ 32 ∷ 52 ∷ 108 ∷ 93 ∷ 12 ∷ 98 ∷ 134 ∷ 147 ∷ 101 ∷ 98
    ∷ 175 ∷ 40
    ∷ 55 ∷ 213 ∷ 171 ∷ 253 ∷ 140 ∷ 69 ∷ 32 ∷ 140 ∷ 200 ∷ 228 ∷ 73 ∷ []

-- the second's
abbrev pub second_digest : List ℕ
second_digest =
    165 ∷ 210 ∷ 38 ∷ 72 ∷ 97 ∷ 240 ∷ 91 ∷ 112 ∷ 149 ∷ 79 ∷ 211 ∷ 203 ∷ 0 ∷ 204 ∷ 255 ∷ 250 ∷ 253 ∷ 188 ∷ 255
    ∷ 59
    ∷ 14 ∷ 107 ∷ 177 ∷ 184 ∷ 42 ∷ 172 ∷ 139 ∷ 12 ∷ 149 ∷ 17 ∷ 165 ∷ 127 ∷ []

-- that is its hash
pub first_is : sent_hash ≡ first_digest
unfolding first_words schedule rounds compress sha.hash_after digest_bytes sha256 message_hash chain_text
    hash_after zeros number_spelling
first_is = refl

-- and this the other's
pub second_is : other_sent_hash ≡ second_digest
unfolding first_words schedule rounds compress sha.hash_after digest_bytes sha256 message_hash chain_text
    hash_after zeros number_spelling
second_is = refl

-- they aren't the same
pub unlike : is_same other_sent_hash sent_hash ≡ false
unlike = ap₂ is_same second_is first_is
