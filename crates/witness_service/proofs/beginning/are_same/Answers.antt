use Rattle.std.proofs.Common.{rules, true≢false, sym, ◌∙◌}
use Rattle.std.specs.Arc.{arc_value}
use Rattle.witness_books.specs.node_book.Rows.{known_in}
use Rattle.witness_service.proofs.Began.{same_at, same_known}
use Rattle.witness_service.proofs.beginning.are_same.Goals as goal

-- the two bases at the place differ
pub returns-then-not-is_same : goal.returns-then-not-is_same
returns-then-not-is_same c = (
  λ t. absurd (true≢false (sym t)),
  λ e.
      let both = same_known (arc_value c.index-own-place.result) (arc_value c.index-other-place.result)
      (same_at (λ b. known_in (arc_value b)) c.args.own.now c.args.other.now c.loop-place.place
      c.index-own-place.result c.index-other-place.result (search rules) (search rules) c.index-own-place.is
      c.index-other-place.is e) in
      let equal = c.deref.ensures ∙ (both ∙ sym c.deref-in-loop-place.ensures) in
      absurd (true≢false (sym (c.is_same.ensures.1 equal) ∙ c.if-not-is_same.true)),
)
