-- Bytes are the text of one envelope, or of one acknowledgement, and a text that is written reads back.
-- Serves: Reached, Answered, laws.calls_are_accepted.
use Rattle.std.proofs.Common.{◌≡◌, ℕ, List, [], Ok, Some, refl, sym, ap, ◌∙◌}
use Rattle.std.proofs.lemmas.List.{append-nil}
use Rattle.std.proofs.lemmas.Option.{same_Some}
use Rattle.xdr.specs.Item.{Value, spelling}
use Rattle.xdr.specs.Reading.{read_at}
use Rattle.xdr.proofs.Exact.{again}
use Rattle.xdr.specs.Texts.Text.{Text, IsText, text_at}
use Rattle.envelopes.specs.Envelope.{envelope_item}
use Rattle.envelopes.specs.Acknowledgement.{ack_item}
use Rattle.envelopes.specs.Checking.{IsAckText, IsTextOf}
use Rattle.envelopes.specs.declared.envelope.Envelope.{Envelope}
use Rattle.envelopes.specs.declared.acknowledgement.Ack.{Ack}

-- a text that is written reads back
pub reads_back : (t : Text) (v : Value t.item) (bytes : List ℕ) → IsText t v bytes → text_at t bytes ≡ Some v
unfolding text_at
reads_back t v bytes h =
    let e : read_at t.item bytes ≡ Ok (v, []) =
    ap (read_at t.item) (h.2 ∙ sym (append-nil (spelling t.item v))) ∙ again t.item v [] h.0 in
    rw (e, h.1) refl

envelope_back : Value envelope_item → Envelope
envelope_back v = record {
  from = v.0;
  to = v.1.0;
  seq = v.1.1.0;
  prev = v.1.1.1.0;
  body = v.1.1.1.1.0;
  signature = record {
    leaf = v.1.1.1.1.1.0;
    shown = v.1.1.1.1.1.1.0;
    other = v.1.1.1.1.1.1.1.0;
    path = v.1.1.1.1.1.1.1.1;
  };
}

-- No bytes are the text of two envelopes.
pub one_envelope : (bytes : List ℕ) (e f : Envelope) → IsTextOf bytes e → IsTextOf bytes f → e ≡ f
unfolding envelope_back
one_envelope bytes e f h k = ap envelope_back (same_Some _ _ (sym h ∙ k))

ack_back : Value ack_item → Ack
ack_back v = record {
  by = v.0;
  number = v.1.0;
  prev = v.1.1.0;
  from = v.1.1.1.0;
  seq = v.1.1.1.1.0;
  sender_prev = v.1.1.1.1.1.0;
  body_hash = v.1.1.1.1.1.1.0;
  signature_hash = v.1.1.1.1.1.1.1.0;
  signature = record {
    leaf = v.1.1.1.1.1.1.1.1.0;
    shown = v.1.1.1.1.1.1.1.1.1.0;
    other = v.1.1.1.1.1.1.1.1.1.1.0;
    path = v.1.1.1.1.1.1.1.1.1.1.1;
  };
}

-- No bytes are the text of two acknowledgements.
pub one_ack : (bytes : List ℕ) (a b : Ack) → IsAckText bytes a → IsAckText bytes b → a ≡ b
unfolding ack_back
one_ack bytes a b h k = ap ack_back (same_Some _ _ (sym h ∙ k))
