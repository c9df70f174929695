-- One record more, and the reading of the clock at which it is answered.
-- Serves: Gateway::serve_stream (gateway).
use Rattle.std.proofs.Common.{◌≡◌, ℕ, ◌+◌, List, [], ◌∷◌, ◌++◌, arith, length, ◌∙◌, refl}
use Rattle.std.specs.Prelude.{Option, Some, None, IfSome}
use Rattle.nfs_items.specs.Timeval.{Timeval}
use Rattle.stream_spec.specs.InTurn.{with_times}
use Rattle.stream_spec.proofs.Timed.{with_times-append}
use Rattle.gateway.specs.Links.Readings.{Readings, IsAfter}

-- a record more comes at the reading after those of the records before
pub with_next : (f : Readings) (rs : List (List ℕ)) (r : List ℕ)
    → with_times f 0 (rs ++ r ∷ []) ≡ with_times f 0 rs ++ (f (length rs), r) ∷ []
with_next f rs r = let e : 0 + length rs ≡ length rs = omega arith in
    with_times-append f 0 rs (r ∷ []) ∙ rw e refl

-- at first none is taken
pub none_taken : (f : Readings) → IsAfter 0 f (Some f)
none_taken f = λ k. let e : 0 + k ≡ k = omega arith in rw e refl

-- after the first n of them the clock reads the n-th, from 0
pub next_reading : (f : Readings) (n : ℕ) (readings : Option Readings) (time : Timeval)
    → IsAfter n f readings → IfSome readings (λ g. time ≡ g 0) → time ≡ f n
next_reading f n None time b h = absurd b
next_reading f n (Some g) time b h = let e : n + 0 ≡ n = omega arith in h ∙ b 0 ∙ rw e refl

-- and leaves one more as taken
pub takes_next : (f : Readings) (n : ℕ) (readings readings' : Option Readings)
    → IsAfter n f readings → IfSome readings (λ g. IsAfter 1 g readings') → IsAfter (n + 1) f readings'
takes_next f n None readings' b h = absurd b
takes_next f n (Some g) None b h = absurd h
takes_next f n (Some g) (Some g') b h =
    λ k. let e : n + (1 + k) ≡ (n + 1) + k = omega arith in h k ∙ b (1 + k) ∙ rw e refl
