use Rattle.challenge.proofs.Found.{result_exact}
use Rattle.challenge.proofs.find.examine.Goals as goal

pub returns-clause-exact : goal.returns-clause-exact
returns-clause-exact c = result_exact c.args.roster.now c.args.evidence.now c.finding_of.result c.finding_of.ensures
