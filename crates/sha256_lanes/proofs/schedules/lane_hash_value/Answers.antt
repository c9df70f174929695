use Rattle.std.proofs.Common.{◌≡◌, ◌*◌, refl, arith, ap, ◌∙◌}
use Rattle.sha2.specs.Sha256.{add_state, compress, rounds}
use Rattle.sha256_lanes.proofs.schedules.lane_hash_value.Goals as goal

-- before the first round stands the hash value
pub turns-init : goal.turns-init
unfolding rounds
turns-init c = λ b all. refl

-- eight turns are the 64 rounds of the standard
pub returns : goal.returns
unfolding compress
returns c = λ b all.
    let done : 8 * c.turns.turn ≡ 64 = omega arith in
    let v = rw done at c.turns.invariant b all in
    c.add_hash.ensures ∙ ap (add_state c.args.hash) v
