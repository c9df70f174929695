use Rattle.std.proofs.Common.{◌≡◌, length}
use Rattle.secure_log.specs.LogEntries.Words.{logged}
use Rattle.watching.specs.Filed.{check_after}
use Rattle.watching.proofs.filed.check_after.Given as goal

abbrev pub invariant-loop-rest : goal.invariant-loop-rest
invariant-loop-rest l = check_after l.ahead (logged l.counts l.rest) ≡ check_after l.left (logged l.skips l.entries)

abbrev pub decreases-loop-rest : goal.decreases-loop-rest
decreases-loop-rest l = length l.rest
