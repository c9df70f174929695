-- Maps with an entry put and taken out again, or put twice.
-- Serves: Received::remove; State::serve.
use Rattle.std.proofs.Common.{◌≡◌, ℕ, Bool, true, false, cond, Less, Equal, Greater, refl, sym, ap, ◌∙◌}
use Rattle.std.proofs.Common.{subst, T}
use Rattle.std.specs.Prelude.{Option, Some, None}
use Rattle.std.specs.Ordering.{eq_by_cmp, is_eq, ordering_then, nat_cmp}
use Rattle.std.specs.declared.cmp.Ordering.{Ordering}
use Rattle.std.specs.Cmp.{IsTotalOrder, Equal-is}
use Rattle.std.specs.Cmp.Lexicographic.{slice_cmp}
use Rattle.std.specs.FinMap as finite
use Rattle.state_spec.specs.State.{ReceivedMessage, received_cmp}

module _ {K X : Type 0} {R : K → K → Ordering} (o : IsTotalOrder R) (same : finite.IsAntisymmetric R) where
  taken_at : (m : finite.FinMap R X) (k q : K) (v : X) (b : Bool) → eq_by_cmp R q k ≡ b
      → finite.get m k ≡ None
      → cond b None (cond b (Some v) (finite.get m q)) ≡ finite.get m q
  taken_at m k q v true is none = sym none ∙ finite.get_tied o m q k ((Equal-is (R q k)).0 is)
  taken_at m k q v false is none = refl

  -- an entry of a key that has none, put and taken out again, leaves the map
  pub taken_again : (m : finite.FinMap R X) (k : K) (v : X) → finite.get m k ≡ None
      → finite.remove (finite.insert m k v) k ≡ m
  taken_again m k v none =
      finite.same_map o same (finite.remove (finite.insert m k v) k) m (λ q.
      finite.get-remove o (finite.insert m k v) k q
      ∙ ap (cond (eq_by_cmp R q k) None) (finite.get-insert o m k v q)
      ∙ taken_at m k q v (eq_by_cmp R q k) refl none)

  put_at : (b : Bool) (v w : X) (x : Option X) → cond b (Some w) (cond b (Some v) x) ≡ cond b (Some w) x
  put_at true v w x = refl
  put_at false v w x = refl

  -- of two entries that are put under one key the later stays
  pub put_again : (m : finite.FinMap R X) (k : K) (v w : X)
      → finite.insert (finite.insert m k v) k w ≡ finite.insert m k w
  put_again m k v w =
      finite.same_map o same (finite.insert (finite.insert m k v) k w) (finite.insert m k w) (λ q.
      finite.get-insert o (finite.insert m k v) k w q
      ∙ ap (cond (eq_by_cmp R q k) (Some w)) (finite.get-insert o m k v q)
      ∙ put_at (eq_by_cmp R q k) v w (finite.get m q)
      ∙ sym (finite.get-insert o m k w q))

both_equal : (a b : Ordering) → ordering_then a b ≡ Equal → (a ≡ Equal) × (b ≡ Equal)
both_equal Less b e = absurd (subst (λ r. T (is_eq r)) (sym e) tt)
both_equal Equal b e = (refl, e)
both_equal Greater b e = absurd (subst (λ r. T (is_eq r)) (sym e) tt)

-- messages that were received and tie are one message
pub received_exact : finite.IsAntisymmetric received_cmp
received_exact a b e =
    let from = both_equal (nat_cmp a.from b.from) _ e in
    let seq = both_equal (nat_cmp a.seq b.seq) _ from.1 in
    λ i. record {
      from = finite.nat_cmp-IsAntisymmetric a.from b.from from.0 i;
      seq = finite.nat_cmp-IsAntisymmetric a.seq b.seq seq.0 i;
      hash = finite.slice_cmp-IsAntisymmetric finite.nat_cmp-IsAntisymmetric a.hash b.hash seq.1 i;
    }
