use Rattle.std.proofs.Common.{◌-◌, ◌≤◌}
use Rattle.party_files.proofs.secret.read_bytes.Given as goal

abbrev pub invariant-loop-filled : goal.invariant-loop-filled
invariant-loop-filled g l = l.filled ≤ 33

abbrev pub decreases-loop-filled : goal.decreases-loop-filled
decreases-loop-filled g l = 33 - l.filled
