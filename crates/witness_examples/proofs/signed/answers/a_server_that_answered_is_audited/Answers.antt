use Rattle.witness_examples.proofs.OfSigned.Serving.{after_audit, is_trusted, is_forwarded}
use Rattle.witness_examples.proofs.signed.answers.a_server_that_answered_is_audited.Goals as goal

pub returns-clause-learned : goal.returns-clause-learned
returns-clause-learned c = λ secret.
    (after_audit secret c.sound_exactly_if.ensures c.honest_servers_replay.ensures.log).owed.1.1.1.1.0

pub returns-clause-asked : goal.returns-clause-asked
returns-clause-asked c = λ secret.
    (after_audit secret c.sound_exactly_if.ensures c.honest_servers_replay.ensures.log).owed.1.1.1.0

pub returns-clause-accepted : goal.returns-clause-accepted
returns-clause-accepted c = λ secret.
    (after_audit secret c.sound_exactly_if.ensures c.honest_servers_replay.ensures.log).owed.1.1.0

pub returns-clause-begun : goal.returns-clause-begun
returns-clause-begun c = λ secret.
    (after_audit secret c.sound_exactly_if.ensures c.honest_servers_replay.ensures.log).owed.1.0

pub returns-clause-filed : goal.returns-clause-filed
returns-clause-filed c = λ secret.
    (after_audit secret c.sound_exactly_if.ensures c.honest_servers_replay.ensures.log).owed.0

pub returns-clause-trusted : goal.returns-clause-trusted
returns-clause-trusted c = λ secret.
    is_trusted secret c.sound_exactly_if.ensures c.honest_servers_replay.ensures.log

pub returns-clause-forwarded : goal.returns-clause-forwarded
returns-clause-forwarded c = λ secret.
    is_forwarded secret c.sound_exactly_if.ensures c.honest_servers_replay.ensures.log
