-- What a gateway's local programs get, once a witness has audited the server.
use Rattle.std.specs.Prelude.{◌≡◌, ℕ, List, [], ◌∷◌, ◌++◌}
use Rattle.xdr.specs.Item.{IsBytes}
use Rattle.secure_log.specs.LogEntries.Chain.{NoCollision}
use Rattle.envelopes.specs.Envelope.{envelope_shows}
use Rattle.envelopes.specs.Acknowledgement.{ack_shows}
use Rattle.witness_spec.specs.Starting.{Beginning}
use Rattle.witness_spec.specs.Watched.{Watched}
use Rattle.witness_spec.specs.Standing.{audited}
use Rattle.witness_spec.specs.Histories.{History, own_of}
use Rattle.witness_laws.specs.Audits.{IsShown}
use Rattle.remote.specs.Remotes.{RemoteParts}
use Rattle.remote.specs.Answers.{IsAnswered}
use Rattle.assured_replies.specs.Owed.{IsOwedIn, start_of}
use Rattle.assured_replies.specs.Laws.{AnswersFor, audited_texts, message_texts, receipt_texts, sent_number}

-- A witness of the roster of a client and of the server that it calls answers for a reply that the client handed out:
-- it was shown the reply's signature and that of the acknowledgement of the call, no two texts have one digest, and it
-- has filed the server's log Sound up to the reply.
pub record IsAssured (g : Beginning) (w : Watched) (history : History) {r r' : RemoteParts} {number : ℕ}
    {ack bytes body receipt : List ℕ} (h : IsAnswered r number ack bytes body receipt r') : Type 0 where
  pub roster : w.roster ≡ r.client.roster
  pub server : w.member.node ≡ r.server
  pub audited : AnswersFor g w history (sent_number w h.replied.envelope)
  pub reply_shown : IsShown w (own_of w history) (envelope_shows h.replied.envelope)
  pub ack_shown : IsShown w (own_of w history) (ack_shows h.acknowledgement)
  pub unlike : NoCollision (audited_texts w (own_of w history)
      ++ (message_texts h.replied.envelope ++ (receipt_texts h.acknowledgement ++ h.call.body ∷ [])))

-- What a client hands out for a call is what the server owed to that very call, where a witness answers for it.
abbrev pub AssuredRepliesAreOwed : Type 0
AssuredRepliesAreOwed =
    (g : Beginning) (w : Watched) (history : History) (r r' : RemoteParts) (number : ℕ)
    (ack bytes body receipt : List ℕ) (h : IsAnswered r number ack bytes body receipt r')
    → IsBytes ack → IsBytes bytes → IsAssured g w history h
    → IsOwedIn (start_of w) (audited w (own_of w history)) (sent_number w h.replied.envelope) r.client.node
    h.call.body body
