use Rattle.std.proofs.Common.{◌≡◌, ℕ, [], ◌∷◌, ◌<◌, map, arith, ap, get_or, sym, ◌∙◌}
use Rattle.sha2.specs.Sha256.{sha256}
use Rattle.sha256_lanes.proofs.OneBlock.{each_of_four}
use Rattle.sha256_lanes.proofs.messages.digest_4.Goals as goal

-- nothing comes before the rest of each message
pub returns : goal.returns
returns g c =
    let m = c.args.messages.now in
    let d = c.finalize.result in
    let at : (l : ℕ) → l < 4 → get_or d l [] ≡ sha256 (get_or m l []) =
    λ l h. c.finalize.ensures l [] h (c.new.ensures l h) in
    each_of_four d (omega arith)
    ∙ (λ i. at 0 (omega arith) i ∷ at 1 (omega arith) i ∷ at 2 (omega arith) i ∷ at 3 (omega arith) i ∷ [])
    ∙ ap (map sha256) (sym (each_of_four m c.told-messages))
