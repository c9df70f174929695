use Rattle.std.proofs.Common.{List, ℕ, ap, ◌∙◌}
use Rattle.sha2.specs.Sha256.{add_state, compress, rounds}
use Rattle.sha256_lanes.proofs.rounds.hash_value.Goals as goal

-- the hash value is that of the standard after the block
pub returns : goal.returns
unfolding compress
returns c = λ b own.
    let h = c.args.hash in
    let words = ap (λ (w : List ℕ). rounds h w 64) (c.schedule-w.ensures b own) in
    c.add_hash.ensures ∙ ap (add_state h) (c.all_rounds.ensures ∙ words)
