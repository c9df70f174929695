use Rattle.watching.proofs.OfAsking.{asked_one}
use Rattle.watching.proofs.audited.AuditedBooks.member_evidence.Goals as goal

pub returns-in-EvidenceIs-clause-asked : goal.returns-in-EvidenceIs-clause-asked
returns-in-EvidenceIs-clause-asked c = asked_one c.args.self.now c.step.new.self _ _ _ c.step.ensures.steps

pub returns : goal.returns
returns c = record {
  beginning = c.step.ensures.beginning;
  shows = tt;
  asked = asked_one c.args.self.now c.step.new.self _ _ _ c.step.ensures.steps;
}
