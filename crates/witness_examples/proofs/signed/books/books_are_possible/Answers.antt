use Rattle.witness_examples.specs.Signed.Audited.{audited_events}
use Rattle.witness_examples.specs.Signed.Shown.{forked_events}
use Rattle.witness_examples.proofs.signed.books.books_are_possible.Goals as goal

pub returns-clause-audited : goal.returns-clause-audited
returns-clause-audited c = λ secret. record {
  history = audited_events secret;
  is = c.signed_histories_are_possible.ensures.history secret;
  stands = c.books_stand_after_histories.ensures.audited secret;
}

pub returns-clause-forked : goal.returns-clause-forked
returns-clause-forked c = λ secret. record {
  history = forked_events secret;
  is = c.signed_forks_are_possible.ensures.history secret;
  stands = c.books_stand_after_histories.ensures.forked secret;
}
