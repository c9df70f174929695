use Rattle.nodes.proofs.OfExchanges.Answered.{asked_joined, none_due, replied_joined, reply_due}
use Rattle.nodes.proofs.OfExchanges.Answered.{served_replied}
use Rattle.nodes.proofs.exchanges.laws.exchanges_serve.Goals as goal

pub returns-clause-replied : goal.returns-clause-replied
returns-clause-replied g = λ c s d t c' s' time body number reply joined owed is replied.
    let due = reply_due c s d t time body owed.receipt number joined owed.asked is owed.owed in (
      served_replied d s t c' s' time body number reply due replied,
      replied_joined d t c' s' number reply (asked_joined c s d t time body owed.receipt joined owed.asked)
          due.ready replied,
    )

pub returns-clause-unanswered : goal.returns-clause-unanswered
returns-clause-unanswered g = λ c s c' s' time body r joined asked none.
    (none_due c s c' s' time body r asked none, asked_joined c s c' s' time body r joined asked)
