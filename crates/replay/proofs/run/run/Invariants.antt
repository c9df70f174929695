use Rattle.std.proofs.Common.{List}
use Rattle.authenticator.specs.declared.authenticator.Authenticator.{Authenticator}
use Rattle.replay.proofs.Runs.{IsRun}
use Rattle.replay.proofs.run.run.Given as goal

abbrev pub invariant-loop-place : goal.invariant-loop-place
invariant-loop-place g l =
    (shown : List Authenticator) × g.K.Keeps.IsKeptOf l.kept shown
    × IsRun l.roster (g.M.Machine.state l.fn.machine) l.fn.first l.opening l.skips l.entries
    (g.M.Machine.state l.machine) shown l.next l.before l.place
