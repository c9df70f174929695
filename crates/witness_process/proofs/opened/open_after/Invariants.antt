-- Those that were looked at are listed.
use Rattle.std.specs.Prelude.{take}
use Rattle.std.specs.List.{AllZip}
use Rattle.witness_process.specs.Opened.{IsListed}
use Rattle.witness_process.proofs.opened.open_after.Given as goal

abbrev pub invariant-loop-challenge : goal.invariant-loop-challenge
invariant-loop-challenge l = AllZip (IsListed l.before l.time) (take l.challenge-index l.challenges) l.listed.items
