use Rattle.std.proofs.Common.{◌≡◌, ◌++◌, drop, map}
use Rattle.evidence_spec.specs.secure_log.LogEntries.Words.{logged}
use Rattle.evidence_spec.specs.Showing.{shown_logged}
use Rattle.evidence_showings.proofs.showing.links_after.Given as goal

abbrev pub invariant-loop-place : goal.invariant-loop-place
invariant-loop-place l =
    l.links.items ++ map shown_logged (logged (drop l.place l.skips) (drop l.place l.entries))
    ≡ map shown_logged (logged l.skips l.entries)
