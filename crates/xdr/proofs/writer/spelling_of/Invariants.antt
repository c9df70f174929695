use Rattle.std.proofs.Common.{◌≡◌, ◌*◌, take}
use Rattle.std.specs.List.{flat_map}
use Rattle.xdr.specs.Item.{number_spelling}
use Rattle.xdr.proofs.writer.spelling_of.Given as goal

abbrev pub invariant-loop-n : goal.invariant-loop-n
invariant-loop-n l =
    (l.at ≡ 4 * l.n-index) × (take l.at l.bytes ≡ flat_map (number_spelling 4) (take l.n-index l.ns))
