use Rattle.std.proofs.Common.{rules, ◌≡◌, ◌≢◌, ◌<◌, ℕ, length, arith, subst, inl, inr, ◌∙◌}
use Rattle.std.proofs.lemmas.Bool.{cases_lt}
use Rattle.sha2.specs.Sha256.{compress}
use Rattle.sha256_lanes.specs.Lanes.{IsBlockOf, IsHashOf}
use Rattle.sha256_lanes.proofs.HashLanes.{kept_hash, set_lane}
use Rattle.sha256_lanes.proofs.lanes.hash_values.Goals as goal

-- the lanes before this one are kept, and this one's is set
pub lanes-preserved : goal.lanes-preserved
lanes-preserved c = record {
  size = search rules;
  done = λ k h b low size held block.
      let after = c.set_hash.new.hashes in
      elim (cases_lt k c.lanes.l) as (λ _. IsHashOf (compress h b) after k) [
        | inl before ↦
            let lane : k < 4 = omega arith in
            let other : k ≢ c.lanes.l = omega arith in
            kept_hash k c.lanes.l (compress h b) c.lanes.hashes after lane other c.set_hash.ensures.others
            (c.lanes.invariant.done k h b before size held block)
        | inr last ↦
            let this : k ≡ c.lanes.l = omega arith in
            let at = subst (λ (n : ℕ). IsBlockOf b c.args.words.now n) this block in
            let own : length c.lane_hash.result ≡ 8 = search rules in
            rw this (set_lane c.lanes.l c.lane_hash.result h b _ _ after own size c.lane_hash.ensures
            (subst (λ (n : ℕ). IsHashOf h c.args.before.now n) this held)
            (c.hash_value-hash.ensures b (λ i within. c.block_words.ensures i within ∙ at.each i within))
            c.set_hash.ensures.set)
      ];
}
