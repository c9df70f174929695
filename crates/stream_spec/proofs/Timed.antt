-- Records one after the other, each at its time: some records, and then more.
-- Serves: Gateway::serve_stream (gateway), run_rpc (rpc_streams).
use Rattle.std.proofs.Common.{◌≡◌, ℕ, ◌+◌, List, [], ◌∷◌, ◌++◌, arith, length, ap, refl}
use Rattle.stream_spec.specs.InTurn.{with_times}

-- records followed by others have their times one after the other
pub with_times-append : {Time : Type 0} (f : ℕ → Time) (k : ℕ) (rs ss : List (List ℕ))
    → with_times f k (rs ++ ss) ≡ with_times f k rs ++ with_times f (k + length rs) ss
with_times-append f k [] ss = let e : k + 0 ≡ k = omega arith in rw e refl
with_times-append {Time = Time} f k (r ∷ rs) ss =
    let e : k + length (r ∷ rs) ≡ (k + 1) + length rs = omega arith in
    rw e (ap (λ (cs : List (Time × List ℕ)). (f k, r) ∷ cs) (with_times-append f (k + 1) rs ss))
