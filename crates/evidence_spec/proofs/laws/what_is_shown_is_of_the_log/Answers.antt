use Rattle.evidence_spec.proofs.laws.what_is_shown_is_of_the_log.Goals as goal
use Rattle.evidence_spec.proofs.Shown.{showing_in_log, segment_in_log, segment_is_part}

pub returns-clause-showing : goal.returns-clause-showing
returns-clause-showing c = λ v ms log s number mark is fits closed i unlike.
    showing_in_log v ms log s is fits closed i unlike number mark

pub returns-clause-segment : goal.returns-clause-segment
returns-clause-segment c = λ ms log s is fits closed i unlike. (
  segment_is_part ms log s is fits.text closed i unlike,
  segment_in_log ms log s is fits.text closed i unlike,
)
