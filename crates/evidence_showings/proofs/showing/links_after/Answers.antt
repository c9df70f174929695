use Rattle.std.proofs.Common.{◌+◌, ◌∙◌, ◌++◌, ◌∷◌, ap, drop, map, rules, sym}
use Rattle.secure_log.specs.LogEntries.Chain.{Logged}
use Rattle.secure_log.specs.LogEntries.Words.{logged}
use Rattle.secure_log.proofs.Gaps.{here_at}
use Rattle.evidence_spec.specs.Showing.{shown_logged}
use Rattle.evidence_showings.proofs.Words.{then_rest}
use Rattle.evidence_showings.proofs.showing.links_after.Goals as goal

-- what is shown of the entries so far, and of those that are left
pub loop-place-preserved : goal.loop-place-preserved
loop-place-preserved c =
    let s = c.skipped_at-skipped.result in
    let x = c.index-entries-place.result in
    let shown = c.loop-place.links.items in
    let rest = logged (drop (c.loop-place.place + 1) c.args.skips.now)
    (drop (c.loop-place.place + 1) c.args.entries.now) in
    let l : Logged = record { skipped = s; entry = x } in
    let here = here_at c.args.skips.now c.args.entries.now c.loop-place.place x s (search rules)
    c.skipped_at-skipped.ensures
    ∙ ap (λ e. record { skipped = s; entry = e } ∷ rest) (sym c.index-entries-place.is) in
    ap (λ ls. ls ++ map shown_logged rest) c.in_ok-push.ensures.items
    ∙ then_rest shown _ (map shown_logged rest)
    ∙ ap (λ y. shown ++ y ∷ map shown_logged rest) c.of_logged.ensures
    ∙ ap (λ ls. shown ++ map shown_logged ls) (sym here)
    ∙ c.loop-place.invariant
