use Rattle.std.proofs.Common.{◌≡◌, ◌∙◌, ◌+◌, ◌++◌, [], ◌∷◌, ap, append_assoc, arith, suc, sym}
use Rattle.node_book.specs.Shown.{counts_of}
use Rattle.node_book.proofs.Shown.{counts_more}
use Rattle.node_book.proofs.replayed.add_skips.Goals as goal

-- one more
pub loop-place-preserved : goal.loop-place-preserved
loop-place-preserved c =
    let k = c.loop-place.place in
    let old = c.args.out.now.items in
    let next : k + 1 ≡ suc k = omega arith in
    c.in_ok-push.ensures.items
    ∙ ap (λ ns. ns ++ c.skipped_at.result ∷ []) c.loop-place.invariant
    ∙ append_assoc old (counts_of c.args.skips.now k) (c.skipped_at.result ∷ [])
    ∙ ap (λ n. old ++ (counts_of c.args.skips.now k ++ n ∷ [])) c.skipped_at.ensures
    ∙ ap (λ ns. old ++ ns) (sym (counts_more c.args.skips.now k))
    ∙ ap (λ n. old ++ counts_of c.args.skips.now n) (sym next)
