use Rattle.std.proofs.Common.{◌≡◌, ◌∙◌, ap}
use Rattle.secure_log.specs.LogEntries.Words.{logged}
use Rattle.challenge.proofs.Found.{outcome_finds}
use Rattle.challenge.proofs.Logs.{closed_words}
use Rattle.challenge.proofs.find.replay_finding.Goals as goal

-- each entry of a closed log has a word
pub replay_outcome-requires-clause-words : goal.replay_outcome-requires-clause-words
replay_outcome-requires-clause-words c =
    let same : logged c.skips.result.now c.entries-entries.result.now ≡ c.args.log.now.entries = ap (λ es. logged c.skips.result.now es) c.entries-entries.ensures.entries ∙ c.skips.ensures in
    rw (c.first-first.ensures, c.opening-opening.ensures.opening, same) (closed_words c.args.roster.now c.args.node c.args.log.now c.args.member.now c.requires c.fits.ensures)

-- the replay's outcome is the finding
pub returns : goal.returns
returns c =
    let same : logged c.skips.result.now c.entries-entries.result.now ≡ c.args.log.now.entries = ap (λ es. logged c.skips.result.now es) c.entries-entries.ensures.entries ∙ c.skips.ensures in
    let is = rw (c.in_ok-start.ensures.state, c.first-first.ensures, c.opening-opening.ensures.opening, same) at c.in_ok-outcome.ensures in
    rw c.finding_in.ensures (outcome_finds c.args.roster.now c.args.node c.args.log.now c.args.member.now c.in_ok-outcome.outcome c.requires is)
