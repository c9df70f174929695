use Rattle.std.proofs.Common.{[], ◌∷◌, ◌++◌, sym, subst}
use Rattle.secure_log.specs.LogEntries.Chain.{NoCollision}
use Rattle.envelopes.specs.Envelope.{envelope_shows}
use Rattle.envelopes.specs.Acknowledgement.{ack_shows}
use Rattle.witness_laws.specs.Audits.{IsShown}
use Rattle.witness_examples.specs.Signed.Served.{call}
use Rattle.witness_examples.proofs.OfSigned.Serving.{own_all}
use Rattle.assured_replies.specs.Laws.{audited_texts, message_texts, receipt_texts}
use Rattle.assured_replies.specs.Example.{its_ack, its_reply, watched_server}
use Rattle.assured_replies.proofs.WorkedRun.{ack_fits, answers_for, ack_shown_by, reply_fits, reply_shown_by, unlike_all}
use Rattle.assured_replies.proofs.example.premises_are_possible.Goals as goal

pub returns-clause-audited : goal.returns-clause-audited
returns-clause-audited c = λ secret.
    answers_for secret c.sound_exactly_if.ensures c.honest_servers_replay.ensures.log
    (c.histories_of_answers_are_possible.ensures.history secret)

pub returns-clause-reply : goal.returns-clause-reply
returns-clause-reply c = λ secret. reply_fits secret

pub returns-clause-reply_shown : goal.returns-clause-reply_shown
returns-clause-reply_shown c = λ secret.
    subst (λ x. IsShown (watched_server secret) x (envelope_shows (its_reply secret))) (sym (own_all secret))
    (reply_shown_by secret)

pub returns-clause-ack : goal.returns-clause-ack
returns-clause-ack c = λ secret. ack_fits secret

pub returns-clause-ack_shown : goal.returns-clause-ack_shown
returns-clause-ack_shown c = λ secret.
    subst (λ x. IsShown (watched_server secret) x (ack_shows (its_ack secret))) (sym (own_all secret))
    (ack_shown_by secret)

pub returns-clause-unlike : goal.returns-clause-unlike
returns-clause-unlike c = λ secret.
    subst (λ x. NoCollision (audited_texts (watched_server secret) x
    ++ (message_texts (its_reply secret) ++ (receipt_texts (its_ack secret) ++ call ∷ [])))) (sym (own_all secret))
    (unlike_all secret c.sound_exactly_if.ensures c.honest_servers_replay.ensures.log)
