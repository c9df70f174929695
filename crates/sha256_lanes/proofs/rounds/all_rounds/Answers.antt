use Rattle.std.proofs.Common.{refl}
use Rattle.sha2.specs.Sha256.{rounds}
use Rattle.sha256_lanes.proofs.rounds.all_rounds.Goals as goal

-- eight times eight rounds are the 64 of the standard
pub returns : goal.returns
unfolding rounds
returns c =
    let h = c.args.hash in
    let v8 = c.eight_rounds-v.ensures h refl in
    let v16 = c.eight_rounds-v-2.ensures h v8 in
    let v24 = c.eight_rounds-v-3.ensures h v16 in
    let v32 = c.eight_rounds-v-4.ensures h v24 in
    let v40 = c.eight_rounds-v-5.ensures h v32 in
    let v48 = c.eight_rounds-v-6.ensures h v40 in
    let v56 = c.eight_rounds-v-7.ensures h v48 in
    c.eight_rounds.ensures h v56
