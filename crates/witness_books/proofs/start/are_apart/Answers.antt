use Rattle.std.proofs.Common.{◌≡◌, rules, true≢false, refl, sym, ap, ◌∙◌}
use Rattle.node_book.specs.Rows.{known_in}
use Rattle.node_book.specs.witness_spec.Starting.{node_of}
use Rattle.witness_books.proofs.Starts.{all_apart, apart_next, same_node}
use Rattle.witness_books.proofs.start.are_apart.Goals as goal

pub returns-then-has_node : goal.returns-then-has_node
returns-then-has_node c =
    let named : c.node-node.result ≡ node_of (known_in c.index-bases-place.result.value) =
    c.node-node.ensures
    ∙ ap (λ s. s.node) (c.showing.ensures ∙ ap (λ v. v.showing) c.value.ensures.value) in (
      λ t. absurd (true≢false (sym t)),
      λ a. absurd (same_node (λ x. known_in x.value) c.args.bases.now c.loop-place.place
          c.index-bases-place.result c.node-node.result (search rules) c.index-bases-place.is named
          c.has_node.result c.has_node.ensures c.if-has_node.true c.loop-place.invariant a),
    )

pub loop-place-preserved : goal.loop-place-preserved
loop-place-preserved c =
    let named : c.node-node.result ≡ node_of (known_in c.index-bases-place.result.value) =
    c.node-node.ensures
    ∙ ap (λ s. s.node) (c.showing.ensures ∙ ap (λ v. v.showing) c.value.ensures.value) in
    apart_next (λ x. known_in x.value) c.args.bases.now c.loop-place.place c.index-bases-place.result
    c.node-node.result (search rules) c.index-bases-place.is named c.has_node.result c.has_node.ensures
    c.if-has_node.false c.loop-place.invariant

pub returns : goal.returns
returns c = (
  λ t. c.loop-place.invariant.1 (all_apart (λ x. known_in x.value) c.args.bases.now c.loop-place.place
      c.loop-place-test.false),
  λ a. refl,
)
