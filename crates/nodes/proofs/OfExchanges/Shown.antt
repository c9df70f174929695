-- What a node shows of an entry of its log: the envelope of a SEND, and the acknowledgement of a RECV.
-- Serves: Called, Answered.
use Rattle.std.proofs.Common.{◌≡◌, ℕ, ◌+◌, true, List, ◌∷◌, ◌++◌, Option, Some, None}
use Rattle.std.proofs.Common.{refl, sym, ap, ap₂, ◌∙◌, arith}
use Rattle.sha2.specs.Sha256.{sha256}
use Rattle.merkle_keys.specs.Signing.{SignatureParts}
use Rattle.authenticator.specs.declared.member.LogVersion.{LogVersion}
use Rattle.authenticator.specs.declared.member.LogVersion.TheVariants.{One, Two}
use Rattle.authenticator.specs.Numbers.{number_in, word_of}
use Rattle.authenticator.proofs.Words.{word_is}
use Rattle.secure_log.specs.LogEntries.Chain.{Logged, logged_link, span}
use Rattle.secure_log.specs.LogEntries.Signatures.{signature_digest}
use Rattle.secure_log.specs.LogEntries.Words.{MaySkip}
use Rattle.secure_log.specs.Log.{HasEntry}
use Rattle.secure_log.specs.declared.log_entries.entry.Entry.TheVariants.{Send, Recv}
use Rattle.secure_log.proofs.Logs.{one_entry}
use Rattle.envelopes.specs.declared.envelope.Envelope.{Envelope}
use Rattle.envelopes.specs.declared.acknowledgement.Ack.{Ack}
use Rattle.commitment.specs.Signings.Signings.{Signing, is_signed_entry, logged_of, signed_word}
use Rattle.commitment.specs.Senders.Sender.{SenderParts, IsSender, signed_at}
use Rattle.commitment.specs.Senders.LookUps.{ack_at, ack_from, ack_of, envelope_at, envelope_from}
use Rattle.commitment.specs.Senders.LookUps.{envelope_of}
use Rattle.commitment.proofs.OfSenders.Meanings.{may_skip_at, signing_is, unsigned_is}

-- the signing of an entry that is signed
pub record IsSigningOf (s : SenderParts) (number : ℕ) (l : Logged) (g : Signing) : Type 0 where
  -- the sender keeps this signing at the number
  pub there : signed_at s number ≡ Some g
  -- it is of that number
  pub numbered : g.number ≡ number
  -- and of that entry
  pub of_entry : logged_of g ≡ l

-- A SEND or RECV that stands in a log is signed at its number.
pub signed_there : (s : SenderParts) (before rest : List Logged) (l : Logged) → IsSender s
    → s.log.entries ≡ before ++ l ∷ rest
    → is_signed_entry l.entry ≡ true
    → (g : Signing) × IsSigningOf s (span before + 1 + l.skipped) l g
signed_there s before rest l is whole kind = by (signed_at s (span before + 1 + l.skipped)) refl
  where
    stands : HasEntry s.log.entries (span before + 1 + l.skipped) l
    stands = record { before = before; rest = rest; whole = whole; place = refl }

    by : (o : Option Signing) → signed_at s (span before + 1 + l.skipped) ≡ o
        → (g : Signing) × IsSigningOf s (span before + 1 + l.skipped) l g
    by None none =
        let unsigned = unsigned_is s (span before + 1 + l.skipped) l none stands in
        absurd (cc)
    by (Some g) there =
        let at = signing_is s (span before + 1 + l.skipped) g is there in
        let one = one_entry s.log.entries (span before + 1 + l.skipped) l (logged_of g) stands at.there in
        (g, record { there = there; numbered = at.is_number; of_entry = sym one.1 })

-- the word of an entry that skips no more than a text may stands for its number
pub word_number : (v : LogVersion) (number : ℕ) (l : Logged) → MaySkip v (logged_link number l)
    → number_in v (word_of l.skipped number) ≡ number
word_number One number l h = omega (arith, h, word_is l.skipped number)
word_number Two number l h = omega (arith, h.1, word_is l.skipped number)

-- the word of an entry of a sender's log stands for its number
word_stands : (s : SenderParts) (before rest : List Logged) (l : Logged) → IsSender s
    → s.log.entries ≡ before ++ l ∷ rest
    → number_in s.log.log_version (word_of l.skipped (span before + 1 + l.skipped))
    ≡ span before + 1 + l.skipped
word_stands s before rest l is whole =
    word_number s.log.log_version (span before + 1 + l.skipped) l
    (may_skip_at s.log.log_version s.log.entries (span before + 1 + l.skipped) l is.skips
    (record { before = before; rest = rest; whole = whole; place = refl }))

-- the envelope of a SEND before which so many numbers are skipped
pub record IsEnvelopeOf (s : SenderParts) (number skipped to : ℕ) (body : List ℕ) (e : Envelope) : Type 0 where
  -- the sender shows this envelope at the number
  pub there : envelope_at s number ≡ Some e
  -- it is from the sender
  pub sender : e.from ≡ s.log.node
  -- it is to this node
  pub receiver : e.to ≡ to
  -- it has the word of the SEND
  pub numbered : e.seq ≡ word_of skipped number
  -- which stands for the number of the SEND
  pub stands : number_in s.log.log_version e.seq ≡ number
  -- its body is the one that was sent
  pub says : e.body ≡ body

-- The envelope that is shown of a SEND is to its receiver, with its body.
pub envelope_shown : (s : SenderParts) (before rest : List Logged) (skipped to : ℕ) (body : List ℕ)
    → IsSender s → s.log.entries ≡ before ++ record { skipped = skipped; entry = Send to body } ∷ rest
    → (e : Envelope) × IsEnvelopeOf s (span before + 1 + skipped) skipped to body e
envelope_shown s before rest skipped to body is whole =
    let l : Logged = record { skipped = skipped; entry = Send to body } in
    let x = signed_there s before rest l is whole refl in
    let g = x.0 in
    let h = x.1 in
    let word : signed_word g ≡ word_of skipped (span before + 1 + skipped) =
    ap₂ word_of (ap (λ (m : Logged). m.skipped) h.of_entry) h.numbered in (
      record {
        from = s.log.node;
        to = to;
        seq = signed_word g;
        prev = g.prev;
        body = body;
        signature = g.signature;
      },
      record {
        there = ap (envelope_of s.log.node) h.there
            ∙ ap (λ (m : Logged). envelope_from s.log.node (signed_word g) g.prev g.signature m.entry)
            h.of_entry;
        sender = refl;
        receiver = refl;
        numbered = word;
        stands = ap (number_in s.log.log_version) word ∙ word_stands s before rest l is whole;
        says = refl;
      },
    )

-- the acknowledgement of a RECV
pub record IsAckAt (s : SenderParts) (number from seq : ℕ) (prev body : List ℕ) (signature : SignatureParts)
    (a : Ack)
    : Type 0 where
  -- the node shows this acknowledgement at the number
  pub there : ack_at s number ≡ Some a
  -- the node itself acknowledges
  pub signer : a.by ≡ s.log.node
  -- the message is from this node
  pub sender : a.from ≡ from
  -- the message has the word `seq`
  pub numbered : a.seq ≡ seq
  -- the sender's hash before the message is `prev`
  pub before : a.sender_prev ≡ prev
  -- it has the digest of the body
  pub says : a.body_hash ≡ sha256 body
  -- and the digest of the sender's signature
  pub signed : a.signature_hash ≡ signature_digest signature

-- The acknowledgement that is shown of a RECV is of the message that it received.
pub ack_shown : (s : SenderParts) (before rest : List Logged) (skipped from seq : ℕ) (prev body : List ℕ)
    (signature : SignatureParts) → IsSender s
    → s.log.entries ≡ before ++ record { skipped = skipped; entry = Recv from seq prev body signature } ∷ rest
    → (a : Ack) × IsAckAt s (span before + 1 + skipped) from seq prev body signature a
ack_shown s before rest skipped from seq prev body signature is whole =
    let l : Logged = record { skipped = skipped; entry = Recv from seq prev body signature } in
    let x = signed_there s before rest l is whole refl in
    let g = x.0 in
    let h = x.1 in (
      record {
        by = s.log.node;
        number = signed_word g;
        prev = g.prev;
        from = from;
        seq = seq;
        sender_prev = prev;
        body_hash = sha256 body;
        signature_hash = signature_digest signature;
        signature = g.signature;
      },
      record {
        there = ap (ack_of s.log.node) h.there
            ∙ ap (λ (m : Logged). ack_from s.log.node (signed_word g) g.prev g.signature m.entry) h.of_entry;
        signer = refl;
        sender = refl;
        numbered = refl;
        before = refl;
        says = refl;
        signed = refl;
      },
    )
