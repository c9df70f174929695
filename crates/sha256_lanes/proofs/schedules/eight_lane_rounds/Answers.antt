use Rattle.std.proofs.Common.{◌+◌, arith}
use Rattle.sha2.specs.Sha256.{schedule}
use Rattle.sha256_lanes.proofs.BlockRounds.{one_more_round}
use Rattle.sha256_lanes.proofs.schedules.eight_lane_rounds.Goals as goal

-- eight single rounds, one after the other
pub returns : goal.returns
returns c = λ h b all held.
    let t = c.args.t in
    let w = schedule b 48 in
    let v1 = one_more_round h w _ _ t (t + 1) (omega arith) held (c.lane_round-v.ensures b all) in
    let v2 = one_more_round h w _ _ (t + 1) (t + 2) (omega arith) v1 (c.lane_round-v-2.ensures b all) in
    let v3 = one_more_round h w _ _ (t + 2) (t + 3) (omega arith) v2 (c.lane_round-v-3.ensures b all) in
    let v4 = one_more_round h w _ _ (t + 3) (t + 4) (omega arith) v3 (c.lane_round-v-4.ensures b all) in
    let v5 = one_more_round h w _ _ (t + 4) (t + 5) (omega arith) v4 (c.lane_round-v-5.ensures b all) in
    let v6 = one_more_round h w _ _ (t + 5) (t + 6) (omega arith) v5 (c.lane_round-v-6.ensures b all) in
    let v7 = one_more_round h w _ _ (t + 6) (t + 7) (omega arith) v6 (c.lane_round-v-7.ensures b all) in
    one_more_round h w _ _ (t + 7) (t + 8) (omega arith) v7 (c.lane_round.ensures b all)
