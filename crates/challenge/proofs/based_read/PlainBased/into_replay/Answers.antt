use Rattle.std.proofs.Common.{◌∙◌, subst, sym}
use Rattle.evidence_showings.specs.Showings.{SaysNoMore}
use Rattle.challenge.proofs.Logs.{says_no_more}
use Rattle.challenge.proofs.based_read.PlainBased.into_replay.Goals as goal

-- the base says no more than its text, and the log skips nothing
pub returns-clause-written : goal.returns-clause-written
returns-clause-written c =
    let base = c.in_ok-base.base in
    let shown = subst (λ v. SaysNoMore v base.showing) (sym c.in_ok-base.ensures.version) c.in_ok-base.ensures.written in
    rw c.of_parts.ensures (
      shown,
      c.self.invariant ∙ sym c.in_ok-base.ensures.version,
      says_no_more c.self.inside.log c.fits.ensures,
    )
