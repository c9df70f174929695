use Rattle.witness_examples.proofs.OfSigned.Booking.{audited_stand, forked_stand, challenged_stand}
use Rattle.witness_examples.proofs.OfSigned.Booking.{acknowledged_stand}
use Rattle.witness_examples.proofs.signed.books.books_stand_after_histories.Goals as goal

pub returns-clause-audited : goal.returns-clause-audited
returns-clause-audited c = audited_stand

pub returns-clause-forked : goal.returns-clause-forked
returns-clause-forked c = forked_stand

pub returns-clause-challenged : goal.returns-clause-challenged
returns-clause-challenged c = challenged_stand

pub returns-clause-acknowledged : goal.returns-clause-acknowledged
returns-clause-acknowledged c = acknowledged_stand
