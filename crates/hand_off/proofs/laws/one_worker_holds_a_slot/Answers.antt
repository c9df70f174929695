use Rattle.std.proofs.Common.{◌≡◌, ℕ, Some, refl, sym, ap, arith}
use Rattle.hand_off.specs.Slots.{holds}
use Rattle.hand_off.proofs.laws.one_worker_holds_a_slot.Goals as goal

-- where the seats of two workers name the slot, they are one seat, with one job
pub returns : goal.returns
returns c = λ s k i j v w a b at there.
    let one = k.named i v a at in
    let two = k.named j w b there in
    let same : v ≡ w = omega (arith, one.0, two.0) in
    let job : a ≡ b = cc (one.1, two.1) in
    (k.apart i j v (holds v a) (holds w b) at there refl (ap (λ (n : ℕ). Some n) (sym same)), job)
