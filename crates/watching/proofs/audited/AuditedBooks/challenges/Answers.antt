use Rattle.watching.proofs.OfAsking.{asked_one}
use Rattle.watching.proofs.audited.AuditedBooks.challenges.Goals as goal

pub returns-in-Open-clause-asked : goal.returns-in-Open-clause-asked
returns-in-Open-clause-asked c = asked_one c.args.self.now c.step.new.self _ _ _ c.step.ensures.steps

pub returns : goal.returns
returns c = record {
  beginning = c.step.ensures.beginning;
  lists = tt;
  asked = asked_one c.args.self.now c.step.new.self _ _ _ c.step.ensures.steps;
}
