use Rattle.authenticator.proofs.Forms.{without_gaps}
use Rattle.authenticator.proofs.laws.rosters_without_gaps.Goals as goal

pub returns : goal.returns
returns c = without_gaps
