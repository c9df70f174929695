-- The order of messages that were received: only equal messages tie.
-- Serves: no_message_twice, messages_are_logged.
use Rattle.std.proofs.Common.{◌≡◌, ℕ, List, true, sym, ap, ◌∙◌}
use Rattle.std.specs.Ordering.{nat_cmp, ordering_then, eq_by_cmp}
use Rattle.std.specs.Cmp.{IsTotalOrder, nat_cmp_total, Equal-is, tied_itself}
use Rattle.std.specs.Cmp.Lexicographic.{slice_cmp, nat_list_cmp_total}
use Rattle.std.specs.FinSet.{IsAntisymmetric, nat_cmp-IsAntisymmetric, slice_cmp-IsAntisymmetric}
use Rattle.std.proofs.lemmas.Cmp.{on_total, then_total}
use Rattle.std.proofs.lemmas.Map.Lookups.{exact_pairs}
use Rattle.state_spec.specs.State.{ReceivedMessage, received_cmp}

-- it is a total order
pub received_total : IsTotalOrder received_cmp
received_total =
    then_total (on_total (λ r. r.from) nat_cmp_total)
    (then_total (on_total (λ r. r.seq) nat_cmp_total) (on_total (λ r. r.hash) nat_list_cmp_total))

-- messages that tie are equal
pub received_exact : IsAntisymmetric received_cmp
received_exact a b h =
    ap (λ (p : ℕ × (ℕ × List ℕ)). record { from = p.0; seq = p.1.0; hash = p.1.1 })
    (exact_pairs nat_cmp (λ (x y : ℕ × List ℕ). ordering_then (nat_cmp x.0 y.0) (slice_cmp nat_cmp x.1 y.1))
    nat_cmp-IsAntisymmetric
    (exact_pairs nat_cmp (slice_cmp nat_cmp) nat_cmp-IsAntisymmetric
    (slice_cmp-IsAntisymmetric nat_cmp-IsAntisymmetric))
    (a.from, (a.seq, a.hash)) (b.from, (b.seq, b.hash)) h)

-- so a test for a tie is one for equality
pub ties_equal : (a b : ReceivedMessage) → eq_by_cmp received_cmp a b ≡ true → a ≡ b
ties_equal a b h = received_exact a b ((Equal-is (received_cmp a b)).0 h)

-- and messages that are equal tie
pub equal_ties : (a b : ReceivedMessage) → a ≡ b → eq_by_cmp received_cmp a b ≡ true
equal_ties a b e =
    (Equal-is (received_cmp a b)).1 (ap (received_cmp a) (sym e) ∙ tied_itself received_total a)
