use Rattle.std.proofs.Common.{[], ◌∷◌, ◌++◌, ◌<◌, inl, refl, subst, arith}
use Rattle.authenticator.specs.Numbers.{number_in}
use Rattle.secure_log.proofs.OfLogEntries.FewerTexts.{left, right}
use Rattle.witness_spec.specs.Starting.{start_number}
use Rattle.witness_spec.specs.Standing.{audited}
use Rattle.witness_spec.specs.Histories.{own_of}
use Rattle.assured_replies.specs.Owed.{IsOwedIn, start_of}
use Rattle.assured_replies.specs.Laws.{audited_texts, message_texts, receipt_texts, sent_number}
use Rattle.assured_replies.proofs.Owed.{reply_answered}
use Rattle.assured_replies.proofs.Calls.{is_call, late}
use Rattle.assured_replies.proofs.laws.audited_replies_answer_their_calls.Goals as goal

-- it is owed to a call, whose RECV is the one that was acknowledged
pub returns : goal.returns
returns c = λ g w history call e k for_it fits there ack_fits of_call ack_there two unlike.
    let past = own_of w history in
    let logged = audited_texts w past in
    let sent = message_texts e in
    let received = receipt_texts k in
    let more = received ++ call.body ∷ [] in
    let all = logged ++ (sent ++ more) in
    let a = c.audited_logs_are_honest.ensures g w history for_it.roster for_it.watched for_it.happened
    for_it.not_exposed in
    let found = reply_answered w past for_it.roster for_it.server for_it.idle a e fits for_it.above for_it.filed there
    all unlike (left logged (sent ++ more)) (λ t i. right logged (sent ++ more) t (left sent more t i)) in
    let low : start_number w.base < number_in w.member.log_version k.number =
    omega (arith, two, late (start_of w) (audited w past) (sent_number w e) e.to found.0 e.body found.1) in
    let same = is_call w past a (sent_number w e) e.to found.0 e.body found.1 call k ack_fits of_call ack_there low two
    for_it.filed all unlike (left logged (sent ++ more))
    (λ t i. right logged (sent ++ more) t (right sent more t (left received (call.body ∷ []) t i)))
    (right logged (sent ++ more) call.body
    (right sent more call.body (right received (call.body ∷ []) call.body (inl refl)))) in (
      same.0,
      subst (λ x. IsOwedIn (start_of w) (audited w past) (sent_number w e) e.to x e.body) same.1 found.1,
    )
