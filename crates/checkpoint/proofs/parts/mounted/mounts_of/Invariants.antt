use Rattle.std.proofs.Common.{◌≡◌, take}
use Rattle.checkpoint.specs.Parts.SaidParts.{mounts_given}
use Rattle.checkpoint.proofs.parts.mounted.mounts_of.Given as goal

abbrev pub invariant-loop-part : goal.invariant-loop-part
invariant-loop-part l = l.mounts ≡ mounts_given (take l.part-index l.parts)
