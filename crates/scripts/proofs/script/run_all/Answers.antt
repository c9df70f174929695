use Rattle.scripts.proofs.Running.{nothing_left}
use Rattle.scripts.proofs.script.run_all.Goals as goal

-- nothing was written before the first line after the nodes
pub returns-in_err-listed-clause-bad : goal.returns-in_err-listed-clause-bad
returns-in_err-listed-clause-bad g c = nothing_left _ _ _

pub returns-in_err-members-clause-bad : goal.returns-in_err-members-clause-bad
returns-in_err-members-clause-bad g c = nothing_left _ _ _

pub returns-in_err-roster-clause-bad : goal.returns-in_err-roster-clause-bad
returns-in_err-roster-clause-bad g c = nothing_left _ _ _

pub returns-in_err-put_roster-clause-bad : goal.returns-in_err-put_roster-clause-bad
returns-in_err-put_roster-clause-bad g c = nothing_left _ _ _

pub returns-in_err-witness-clause-bad : goal.returns-in_err-witness-clause-bad
returns-in_err-witness-clause-bad g c = nothing_left _ _ _

pub returns-in_err-make-clause-bad : goal.returns-in_err-make-clause-bad
returns-in_err-make-clause-bad g c = nothing_left _ _ _

pub returns-in_err-new-clause-bad : goal.returns-in_err-new-clause-bad
returns-in_err-new-clause-bad g c = nothing_left _ _ _
