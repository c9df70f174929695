use Rattle.std.proofs.Common.{◌≤◌, length, arith}
use Rattle.sha256_lanes.proofs.DigestRows.{whole_row}
use Rattle.sha256_lanes.proofs.messages.set_rest.Goals as goal

-- after the last place the row is whole
pub returns : goal.returns
returns g c =
    let all : length c.args.messages.now ≤ c.loop-place.place = omega arith in
    whole_row c.args.messages.now _ _ all c.loop-place.invariant
