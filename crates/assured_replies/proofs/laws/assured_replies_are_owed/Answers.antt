use Rattle.std.proofs.Common.{◌∙◌, sym, subst}
use Rattle.envelopes.specs.Envelope.{envelope_text, envelope_value}
use Rattle.envelopes.specs.Acknowledgement.{ack_text, ack_value}
use Rattle.witness_spec.specs.Standing.{audited}
use Rattle.witness_spec.specs.Histories.{own_of}
use Rattle.assured_replies.specs.Owed.{IsOwedIn, start_of}
use Rattle.assured_replies.specs.Laws.{sent_number}
use Rattle.assured_replies.proofs.Accepted.{place_of, same_client}
use Rattle.assured_replies.proofs.laws.assured_replies_are_owed.Goals as goal

-- by the law on calls, of the call, the acknowledgement and the reply that the client had
pub returns : goal.returns
returns c = λ g w history r r' number ack bytes body receipt h is_ack is_bytes assured.
    let e = h.replied.envelope in
    let a = h.acknowledgement in
    let same = same_client r number ack h.call a h.between h.acknowledged in
    let opens = h.replied.received.from.opens in
    let reply_fits = ((c.reads_each_text.ensures.exact envelope_text (envelope_value e) bytes is_bytes).0
    opens.0.text).0 in
    let ack_fits = ((c.reads_each_text.ensures.exact ack_text (ack_value a) ack is_ack).0
    h.acknowledged.acknowledges.text).0 in
    let found = c.audited_replies_answer_their_calls.ensures g w history h.call e a assured.audited reply_fits
    assured.reply_shown ack_fits h.acknowledged.acknowledges.fits assured.ack_shown
    (place_of w r h.between h.call a e same assured.roster assured.server assured.audited.roster h.replied.is_reply)
    assured.unlike in
    subst (λ x. IsOwedIn (start_of w) (audited w (own_of w history)) (sent_number w e) r.client.node h.call.body x)
    (sym h.replied.says)
    (subst (λ n. IsOwedIn (start_of w) (audited w (own_of w history)) (sent_number w e) n h.call.body e.body)
    (opens.0.receiver ∙ same.node) found.1)
