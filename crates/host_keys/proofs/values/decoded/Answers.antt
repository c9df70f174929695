use Rattle.std.proofs.Common.{◌≡◌, List, ℕ, length, Result, Ok, Err, MatchResult, Some, ap, sym, ◌∙◌, arith}
use Rattle.std.proofs.Common.{refl}
use Rattle.hex.specs.Hex.{encode_lower, decode_sized}
use Rattle.hex.proofs.HexLemmas.{decode_sized-encode_lower, decode_sized-ok, decode_sized-twice, decode_of-ok}
use Rattle.hex.specs.declared.error.FromHexError.{FromHexError}
use Rattle.host_keys.specs.Lines.{IsDigest}
use Rattle.host_keys.proofs.values.decoded.Goals as goal

-- what decoding into 32 bytes says of its result and of the bytes
abbrev Decodes : {U : Type 0} → U → (r : Result U FromHexError) (out : List ℕ)
    → Result (List ℕ) FromHexError → Type 0
Decodes unit r out d = MatchResult d (λ bytes. (r ≡ Ok unit) × (out ≡ bytes)) (λ e. r ≡ Err e)

-- of a digest's digits it gives the digest
decoded : {U : Type 0} (word digest out : List ℕ) (unit : U) (r : Result U FromHexError) → IsDigest digest
    → word ≡ encode_lower digest → Decodes unit r out (decode_sized word 32) → (r ≡ Ok unit) × (out ≡ digest)
decoded word digest out unit r is e h = rw (e, decode_sized-encode_lower digest 32 is.0 is.1) at h

-- what was decoded has 32 bytes
is_digest : {U : Type 0} (word out : List ℕ) (unit : U) (r : Result U FromHexError) (d : Result
    (List ℕ) FromHexError)
    → decode_sized word 32 ≡ d → r ≡ Ok unit → Decodes unit r out d → IsDigest out
is_digest word out unit r (Ok bytes) e ok h =
    let size : length word ≡ 64 = decode_sized-ok word 32 bytes e in
    let whole = decode_of-ok word bytes (sym (decode_sized-twice word 32 size) ∙ e) in
    rw h.1 (omega (arith, whole.2), whole.3)
is_digest word out unit r (Err x) e ok h = absurd (let bad : Ok unit ≡ Err x = sym ok ∙ h in cc)

pub returns-in-Ok-clause-is : goal.returns-in-Ok-clause-is
returns-in-Ok-clause-is c =
    is_digest c.as_bytes.result.now c.decode_to_slice.new.out tt c.decode_to_slice.result
    (decode_sized c.as_bytes.result.now 32) refl (c.in-Ok.is)
    c.decode_to_slice.ensures.value

pub returns-in-Ok-clause-only : goal.returns-in-Ok-clause-only
returns-in-Ok-clause-only c digest is e =
    ap Some (decoded c.as_bytes.result.now digest c.decode_to_slice.new.out tt c.decode_to_slice.result is
    (cc) c.decode_to_slice.ensures.value).1

pub returns-in-Err-clause-only : goal.returns-in-Err-clause-only
returns-in-Err-clause-only c digest is e =
    let read = (decoded c.as_bytes.result.now digest c.decode_to_slice.new.out tt c.decode_to_slice.result
    is (cc) c.decode_to_slice.ensures.value).0 in cc
