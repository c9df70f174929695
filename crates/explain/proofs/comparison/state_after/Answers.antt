use Rattle.std.proofs.Common.{◌≡◌, ◌-◌, ◌∙◌, ap, arith, rules, subst, sym}
use Rattle.std.specs.List.{AllByRecursion}
use Rattle.secure_log.specs.LogEntries.Chain.{logged_links}
use Rattle.secure_log.specs.LogEntries.Words.{MaySkip, logged}
use Rattle.explain.specs.Numbers.{AreLow}
use Rattle.explain.proofs.EntryNumbers.{words_from}
use Rattle.explain.proofs.comparison.state_after.Goals as goal

pub replay_outcome-requires-clause-words : goal.replay_outcome-requires-clause-words
replay_outcome-requires-clause-words c =
    let s = c.args.log.now.audited.now in
    let skips = c.skips-skips.result.now in
    let es = c.entries-entries.result.now in
    let same : s.entries ≡ logged skips es =
    sym c.skips-skips.ensures ∙ ap (logged skips) (sym c.entries-entries.ensures.entries) in
    let may : AllByRecursion (MaySkip s.log_version) (logged_links (s.first - 1) (logged skips es)) =
    subst (λ ls. AllByRecursion (MaySkip s.log_version) (logged_links (s.first - 1) ls)) same c.fits.ensures.skips in
    let low : AreLow s.log_version c.first-first.result c.min-count.result =
    subst (λ first. AreLow s.log_version first c.min-count.result) (sym c.first-first.ensures) (c.have_words.ensures (search rules)) in
    words_from s.log_version (s.first - 1) c.first-first.result _ skips es c.min-count.result
    (omega (arith, c.first-first.ensures)) low may
