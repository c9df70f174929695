use Rattle.std.proofs.Common.{◌≡◌, None, drop}
use Rattle.host_keys.specs.Rosters.{epoch_from}
use Rattle.host_keys.proofs.member_lines.nearest_epoch.Given as goal

abbrev pub invariant-loop-line : goal.invariant-loop-line
invariant-loop-line l =
    epoch_from l.number None l.lines ≡ epoch_from l.number l.least (drop l.line-index l.lines)
