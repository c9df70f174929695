-- What taking the acknowledgement of a call gives and leaves.
-- Serves: take_ack.
use Rattle.std.proofs.Common.{◌≡◌, ℕ, List, Ok, Option, Some, None, sym, ap, subst, ◌∙◌}
use Rattle.std.specs.Prelude.{IsSomeAnd}
use Rattle.std.specs.FinMap.{get}
use Rattle.authenticator.specs.Numbers.{number_in}
use Rattle.authenticator.specs.Signed.{IsSignedIn}
use Rattle.envelopes.specs.Acknowledgement.{ack_shows}
use Rattle.envelopes.specs.Checking.{IsAckText}
use Rattle.envelopes.specs.declared.acknowledgement.Ack.{Ack}
use Rattle.envelopes.specs.declared.envelope.Envelope.{Envelope}
use Rattle.commitment.specs.Senders.LookUps.{FitsEnvelope, FitsSend, envelope_at}
use Rattle.node_logs.specs.Nodes.{NodeParts, sender_of}
use Rattle.node_logs.specs.AckTaking.{TakesAck}
use Rattle.node_logs.specs.declared.outcome.AckTaken.TheVariants.{Already}
use Rattle.nodes.proofs.OfExchanges.Texts.{one_ack}
use Rattle.remote.specs.Remotes.{remote_of}
use Rattle.remote.specs.Calls.{IsCallAt}
use Rattle.remote.specs.Replies.{Acknowledges, HasAck, IsAcknowledged, RefusesAck, already}
use Rattle.remote.specs.Sent.{IsAckBy}
use Rattle.remote.specs.declared.fault.AcceptFault.TheVariants as faults

-- the SEND that an acknowledgement of a call's word is looked up at
looked_up : (n : NodeParts) (server number : ℕ) (call : Envelope) (a : Ack)
    → IsCallAt (remote_of n server) number call
    → a.seq ≡ call.seq
    → envelope_at (sender_of n) (number_in n.log_version a.seq) ≡ Some call
looked_up n server number call a at word =
    ap (λ (k : ℕ). envelope_at (sender_of n) k) (ap (number_in n.log_version) word ∙ at.stands) ∙ at.shown

-- An acknowledgement of the call's word that fits a SEND fits the call.
fits_call : (n : NodeParts) (server number : ℕ) (call : Envelope) (a : Ack)
    → IsCallAt (remote_of n server) number call
    → a.seq ≡ call.seq
    → FitsSend (sender_of n) a
    → FitsEnvelope a call
fits_call n server number call a at word fits =
    subst (λ (o : Option Envelope). IsSomeAnd o (FitsEnvelope a)) (looked_up n server number call a at word)
    fits

-- what was read acknowledges the call, once it fits a SEND and is signed
acknowledges : (n : NodeParts) (server number word : ℕ) (call : Envelope) (bytes : List ℕ) (a b : Ack)
    → IsCallAt (remote_of n server) number call
    → word ≡ call.seq
    → IsAckBy server word bytes a
    → IsAckText bytes b
    → FitsSend (sender_of n) b
    → IsSignedIn n.roster (ack_shows b)
    → Acknowledges (remote_of n server) call bytes a
acknowledges n server number word call bytes a b at is_word read text fits signed =
    let same : b ≡ a = one_ack bytes b a text read.text in
    record {
      text = read.text;
      signer = read.signer;
      fits =
          fits_call n server number call a at (read.of_word ∙ is_word)
          (subst (λ (x : Ack). FitsSend (sender_of n) x) same fits);
      signed = subst (λ (x : Ack). IsSignedIn n.roster (ack_shows x)) same signed;
    }

-- a client that is as it was
stays : (n n' : NodeParts) (server : ℕ) → n' ≡ n → remote_of n' server ≡ remote_of n server
stays n n' server h = ap (λ (m : NodeParts). remote_of m server) h

-- It stands there from before.
pub is_there : (n n' : NodeParts) (server number word : ℕ) (call : Envelope) (bytes : List ℕ) (a : Ack)
    → IsCallAt (remote_of n server) number call
    → word ≡ call.seq
    → IsAckBy server word bytes a
    → TakesAck n bytes (Ok Already) n'
    → HasAck n' a
    → IsAcknowledged (remote_of n server) number bytes call a (remote_of n' server)
is_there n n' server number word call bytes a at is_word read x has = record {
  is_call = at;
  acknowledges = acknowledges n server number word call bytes a x.0 at is_word read x.1.0.text x.1.0.fits
      x.1.1;
  stands = already (subst (λ (m : NodeParts). HasAck m a) x.1.3 has) (stays n n' server x.1.3);
}

-- Another stands there.
pub is_another : (n n' : NodeParts) (server number word : ℕ) (call : Envelope) (bytes : List ℕ) (a : Ack)
    → IsCallAt (remote_of n server) number call
    → word ≡ call.seq
    → IsAckBy server word bytes a
    → TakesAck n bytes (Ok Already) n'
    → (HasAck n' a → ⊥)
    → RefusesAck (remote_of n server) number bytes faults.AcknowledgedTwice (remote_of n' server)
is_another n n' server number word call bytes a at is_word read x has =
    let same : x.0 ≡ a = one_ack bytes x.0 a x.1.0.text read.text in (
      call,
      (
        a,
        (
          at,
          acknowledges n server number word call bytes a x.0 at is_word read x.1.0.text x.1.0.fits x.1.1,
          subst (λ (k : Ack). get n.state.sends k.seq ≡ None) same x.1.2,
          λ h. has (subst (λ (m : NodeParts). HasAck m a) (sym x.1.3) h),
          stays n n' server x.1.3,
        ),
      ),
    )
