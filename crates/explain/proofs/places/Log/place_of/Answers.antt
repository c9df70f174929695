use Rattle.std.proofs.Common.{◌∙◌, arith, sym}
use Rattle.explain.specs.Numbers.{number_at}
use Rattle.explain.proofs.EntryNumbers.{is_another, none_else}
use Rattle.explain.proofs.places.Log.place_of.Goals.{else-at-entries-via-then-at-entries+else-eq}
use Rattle.explain.proofs.places.Log.place_of.Goals.{else-at-entries-via-else-at-entries}
use Rattle.explain.proofs.places.Log.place_of.Goals as goal

pub returns-else-at-entries-clause-none : goal.returns-else-at-entries-clause-none
returns-else-at-entries-clause-none c =
    let first = c.args.self.now.audited.now.first in
    let log = c.args.self.now.audited.now.entries in
    let count = c.count_below-at.result in
    none_else first log c.args.number count c.count_below-at.ensures
    (elim c.else-at-entries.branch [
      | else-at-entries-via-then-at-entries+else-eq w ↦ λ stands.
          is_another w.number.result c.args.number (number_at first log count) c.ranges.number.fits w.number.ensures
          (sym w.eq.ensures ∙ w.if-eq.false) stands.its
      | else-at-entries-via-else-at-entries w ↦ λ stands.
          omega (arith, stands.inside, w.if-at-entries.false, c.entries.ensures.count)
    ])
