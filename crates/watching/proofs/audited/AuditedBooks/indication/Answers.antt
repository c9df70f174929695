use Rattle.watching.proofs.OfAsking.{asked_one}
use Rattle.watching.proofs.audited.AuditedBooks.indication.Goals as goal

pub returns-clause-asked : goal.returns-clause-asked
returns-clause-asked c = asked_one c.args.self.now c.step.new.self _ _ _ c.step.ensures.steps
