use Rattle.std.proofs.Common.{◌≡◌, length}
use Rattle.witness_reports.specs.Audits.{are_forwarded}
use Rattle.witness_reports.proofs.audits.are_forwarded.Given as goal

-- what is left is forwarded exactly where all is
abbrev pub invariant-loop-rest : goal.invariant-loop-rest
invariant-loop-rest l = are_forwarded l.rest ≡ are_forwarded l.places

abbrev pub decreases-loop-rest : goal.decreases-loop-rest
decreases-loop-rest l = length l.rest
