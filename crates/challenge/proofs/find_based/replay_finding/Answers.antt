use Rattle.std.proofs.Common.{◌≡◌, ◌∙◌, ap}
use Rattle.secure_log.specs.LogEntries.Words.{logged}
use Rattle.replay.proofs.LoggedPlaces.{segment_words}
use Rattle.evidence_showings.specs.evidence_spec.Evidence.{MAX_AUDITED}
use Rattle.challenge.proofs.Found.{after_finds}
use Rattle.challenge.proofs.find_based.replay_finding.Goals as goal

-- each entry of a closed log has a word
pub replay_outcome-requires-clause-words : goal.replay_outcome-requires-clause-words
replay_outcome-requires-clause-words c =
    let same : logged c.skips.result.now c.entries-entries.result.now ≡ c.log-log.result.now.entries =
    ap (λ es. logged c.skips.result.now es) c.entries-entries.ensures.entries ∙ c.skips.ensures in
    rw (
      c.first-first.ensures,
      c.opening-opening.ensures.opening,
      same,
      c.log-log.ensures.log,
    ) (segment_words MAX_AUDITED c.args.based.now.log c.requires.after.ends
    (rw c.log-log.ensures.log at c.fits.ensures))

-- the replay's outcome is the finding
pub returns : goal.returns
returns c =
    let same : logged c.skips.result.now c.entries-entries.result.now ≡ c.log-log.result.now.entries =
    ap (λ es. logged c.skips.result.now es) c.entries-entries.ensures.entries ∙ c.skips.ensures in
    let is = rw (
      c.first-first.ensures,
      c.opening-opening.ensures.opening,
      same,
      c.log-log.ensures.log,
    ) at c.in_ok-outcome.ensures in
    rw c.finding_in.ensures (after_finds c.a_text_has_one_state.ensures.one c.args.roster.now c.args.node
    c.args.based.now.base c.args.based.now.log c.requires.good.0 c.args.state.state c.in_ok-outcome.outcome
    c.requires.closed c.requires.good.1 c.requires.after c.log-log.ensures.version is)
