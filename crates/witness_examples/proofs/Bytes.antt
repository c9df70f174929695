-- What a packet with a wrong signature is taken for.
-- Serves: bytes_are_refused.
use Rattle.std.proofs.Common.{◌≡◌, ℕ, zero, suc, ◌<◌, ◌^◌, ◌/◌, ◌%◌, ◌++◌, false, List, [], ◌∷◌, length}
use Rattle.std.proofs.Common.{replicate, Err}
use Rattle.std.proofs.Common.{refl, ◌∙◌, arith}
use Rattle.std.proofs.lemmas.List.{length-replicate}
use Rattle.std.specs.Int.{bytes_high_first, byte_at}
use Rattle.xdr.specs.Item.{Fits, IsBytes, number_spelling}
use Rattle.merkle_keys.proofs.SignatureTexts.{parts_fit}
use Rattle.authenticator.specs.Signed.{authenticator_item, authenticator_value}
use Rattle.authenticator.specs.Signing.{is_signed, is_signed_in}
use Rattle.authenticator.specs.declared.member.Member.{Member}
use Rattle.authenticator.specs.declared.refusal.Refusal.TheVariants.{UnknownNode, BadSignature}
use Rattle.packets.specs.Packet.{Learn, Says, content_text}
use Rattle.packets.specs.Judging.{judged, judged_delivery}
use Rattle.packets.proofs.Judged.{unsigned, of_strangers}
use Rattle.packets.proofs.Taken.{as_spelled}
use Rattle.witness_examples.specs.Worked.{five}
use Rattle.witness_examples.specs.Bytes.{zero_bytes, forged, forged_packet}

-- ---- texts of bytes

none : IsBytes []
none i = omega arith

front : (x : ℕ) (xs : List ℕ) → x < 256 → IsBytes xs → IsBytes (x ∷ xs)
front x xs low h zero = low
front x xs low h (suc i) = h i

both : (xs ys : List ℕ) → IsBytes xs → IsBytes ys → IsBytes (xs ++ ys)
both [] ys h k = k
both (x ∷ xs) ys h k = front x (xs ++ ys) (h 0) (both xs ys (λ i. h (suc i)) k)

zeros_are : (n : ℕ) → IsBytes (replicate n 0)
zeros_are zero = none
zeros_are (suc n) = front 0 (replicate n 0) (omega arith) (zeros_are n)

zero_bytes_are : (n : ℕ) → IsBytes (zero_bytes n)
unfolding zero_bytes
zero_bytes_are n = zeros_are n

zero_count : (n : ℕ) → length (zero_bytes n) ≡ n
unfolding zero_bytes
zero_count n = length-replicate n 0

low : (x : ℕ) → x % 256 < 256
low x = omega arith

byte_low : (k n : ℕ) → byte_at k n < 256
byte_low zero n = low n
byte_low (suc k) n = low (n / 256 ^ suc k)

high_first : (k n : ℕ) → IsBytes (bytes_high_first k n)
high_first zero n = none
high_first (suc k) n = front (byte_at k n) (bytes_high_first k n) (byte_low k n) (high_first k n)

spelled : (k n : ℕ) → IsBytes (number_spelling k n)
unfolding number_spelling
spelled k n = high_first k n

-- ---- the packet

fits : (node : ℕ) → node < 256 → Fits authenticator_item (authenticator_value (forged node))
fits node low = (
  omega (arith, low),
  (
    (omega arith, refl),
    (
      zero_count 32,
      parts_fit 0 (zero_bytes 8_192) (zero_bytes 8_192) [] (omega arith) (zero_count 8_192)
          (zero_count 8_192) (omega arith)
          (λ i h. absurd (omega (arith, h))),
    ),
  ),
)

says : (node : ℕ) → node < 256 → Says (forged_packet node) (Learn (forged node))
says node low =
    record {
      content = content_text (Learn (forged node));
      whole = refl;
      is_content = (fits node low, refl, refl);
    }

is_bytes : (node : ℕ) → IsBytes (forged_packet node)
is_bytes node =
    let text = λ (n : ℕ). both (zero_bytes n) [] (zero_bytes_are n) none in
    both (number_spelling 4 1) _ (spelled 4 1)
    (both (number_spelling 4 node) _ (spelled 4 node)
    (both (number_spelling 8 3) _ (spelled 8 3)
    (both (zero_bytes 32 ++ []) _ (text 32)
    (both (number_spelling 4 0) _ (spelled 4 0)
    (both (zero_bytes 8_192 ++ []) _ (text 8_192)
    (both (zero_bytes 8_192 ++ []) _ (text 8_192)
    (both (number_spelling 4 0) [] (spelled 4 0) none)))))))

taken_for : (ms : List Member) (node : ℕ) → node < 256
    → judged ms (forged_packet node) ≡ judged_delivery ms (Learn (forged node))
taken_for ms node low = as_spelled ms (forged_packet node) (Learn (forged node)) (is_bytes node)
    (says node low)

no_signature : is_signed_in (five ∷ []) (forged 5) ≡ false
unfolding is_signed
no_signature = refl

-- a stranger's
pub of_stranger : judged (five ∷ []) (forged_packet 6) ≡ Err UnknownNode
of_stranger = taken_for (five ∷ []) 6 (omega arith) ∙ of_strangers (five ∷ []) (Learn (forged 6)) refl refl

-- a member's
pub of_member : judged (five ∷ []) (forged_packet 5) ≡ Err BadSignature
of_member = taken_for (five ∷ []) 5 (omega arith) ∙ unsigned (five ∷ []) (Learn (forged 5)) refl refl
    no_signature
