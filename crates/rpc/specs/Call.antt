-- Calls (RFC 5531, section 9, rpc_msg with a call_body).
use Rattle.std.specs.Prelude.{◌≡◌, ◌≢◌, ℕ, ◌==◌, List, ◌++◌, Ok, if◌then◌else◌}
use Rattle.xdr.specs.Item.{Item, word, word_where, opaque, pair, Value, spelling, Fits}
use Rattle.xdr.specs.Reading.{Read, ◌>>=◌, read_at}

-- opaque_auth (section 8.2): a flavor, of which any number decodes, and at most 400 bytes
pub record Auth : Type 0 where
  pub flavor : ℕ
  pub body : List ℕ

-- its item: the standard's `opaque body<400>` after the flavor
abbrev pub opaque_auth : Item
opaque_auth = pair word (opaque 400)

-- the header of a call of RPC version 2: prog, vers, proc, cred, verf
pub record CallHeader : Type 0 where
  pub program : ℕ
  pub version : ℕ
  pub procedure : ℕ
  pub credential : Auth
  pub verifier : Auth

-- its item
abbrev pub call_header : Item
call_header = pair word (pair word (pair word (pair opaque_auth opaque_auth)))

-- a header as the value of its item
abbrev pub header_value : CallHeader → Value call_header
header_value h = (
  h.program,
  (
    h.version,
    (
      h.procedure,
      ((h.credential.flavor, h.credential.body), (h.verifier.flavor, h.verifier.body)),
    ),
  ),
)

-- and back
abbrev pub header_from : Value call_header → CallHeader
header_from v = record {
  program = v.0;
  version = v.1.0;
  procedure = v.1.1.0;
  credential = record { flavor = v.1.1.1.0.0; body = v.1.1.1.0.1 };
  verifier = record { flavor = v.1.1.1.1.0; body = v.1.1.1.1.1 };
}

-- the first three words of a call: xid, CALL, which is 0, and rpcvers
abbrev pub call_start : Item
call_start = pair word (pair (word_where (λ n. n == 0)) word)

-- a call without its arguments, with its xid first: of another RPC version nothing more than that version is
-- known
pub data Message : Type 0 where
  OtherVersion : ℕ → ℕ → Message
  Version2 : ℕ → CallHeader → Message

-- the one spelling of a call, without its arguments
abbrev pub message_text : Message → List ℕ
message_text (OtherVersion xid version) = spelling call_start (xid, (0, version))
message_text (Version2 xid h) = spelling call_start (xid, (0, 2)) ++ spelling call_header (header_value h)

-- what has a spelling
abbrev pub IsMessage : Message → Type 0
IsMessage (OtherVersion xid version) = Fits call_start (xid, (0, version)) × (version ≢ 2)
IsMessage (Version2 xid h) = Fits call_start (xid, (0, 2)) × Fits call_header (header_value h)

-- Bytes say a call, and then its arguments, or anything.
pub record Says (bytes : List ℕ) (m : Message) (rest : List ℕ) : Type 0 where
  pub is_message : IsMessage m
  pub bytes_are : bytes ≡ message_text m ++ rest

-- reading a call from the front, with the first fault that is met
abbrev pub message_at : List ℕ → Read Message
message_at bytes = do
  s ← read_at call_start bytes
  if s.0.1.1 == 2 then (read_at call_header s.1 >>= λ h. Ok (Version2 s.0.0 (header_from h.0), h.1))
      else Ok (OtherVersion s.0.0 s.0.1.1, s.1)
