use Rattle.witness_laws.specs.witness_spec.Histories.{own_of}
use Rattle.witness_laws.proofs.OwnSteps.{own_owed}
use Rattle.witness_node_laws.proofs.OwnAsked.{asked_is_signed, asked_may_begin}
use Rattle.witness_node_laws.proofs.laws.own_words_can_be_answered.Goals as goal

-- an audit asks from after an entry, up to a number that the node signed
pub returns : goal.returns
returns c = λ g w history first last fault member from unbased version h all stage refused.
    let n = c.args.node.now in
    c.what_is_asked_can_be_answered.ensures g w history n first last fault member from h stage
    c.is_honest.ensures.signed
    (asked_is_signed c.each_send_and_recv_is_signed.ensures.signed
    c.each_send_and_recv_is_signed.ensures.unsigned c.what_a_sender_shows_is_of_its_log.ensures.authenticator
    c.a_log_has_one_pair_for_each_place.ensures.each n w version (own_of w history) first last
    (own_owed g w member from history h) all stage)
    (asked_may_begin c.each_send_and_recv_is_signed.ensures.signed
    c.each_send_and_recv_is_signed.ensures.unsigned c.what_a_sender_shows_is_of_its_log.ensures.authenticator
    c.a_log_has_one_pair_for_each_place.ensures.each n w (own_of w history) first last unbased
    (own_owed g w member from history h) all stage)
    refused
