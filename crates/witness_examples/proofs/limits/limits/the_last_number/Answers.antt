use Rattle.std.proofs.Common.{refl, ap, arith, [], ◌∷◌}
use Rattle.witness_spec.specs.Refusals.{BookFull}
use Rattle.witness_spec.specs.Replies.{Asked, Refused}
use Rattle.witness_spec.specs.Standing.{End}
use Rattle.witness_examples.specs.Reaching.{watched_in}
use Rattle.witness_examples.specs.Worked.{five, learned, one_hash}
use Rattle.witness_examples.specs.Limits.Audits.{clients, sender, state_heard, heard}
use Rattle.witness_examples.proofs.OfLimits.Audits.{Quiet, then_asked, is_waiting}
use Rattle.witness_examples.proofs.OfLimits.Rounds.{heard_at, quiet_heard}
use Rattle.witness_examples.proofs.limits.limits.the_last_number.Goals as goal

abbrev behind : Quiet (watched_in clients five) (heard 15) (heard_at 61_440) 61_441 16 state_heard (sender ∷ [])
behind = quiet_heard 15 (omega arith)

pub returns-clause-end : goal.returns-clause-end
returns-clause-end c = ap (λ (e : End). e.number) behind.at_end

pub returns-clause-waits : goal.returns-clause-waits
returns-clause-waits c =
    is_waiting (watched_in clients five) (heard 15) (heard_at 61_440) 61_441 16 state_heard (sender ∷ []) behind

pub returns-clause-last : goal.returns-clause-last
returns-clause-last c =
    then_asked (watched_in clients five) (heard 15) (heard_at 61_440) 61_441 16 state_heard (sender ∷ []) behind
    (learned 65_536 one_hash) (omega arith) (Asked 61_442 65_536) refl

pub returns-clause-full : goal.returns-clause-full
returns-clause-full c =
    then_asked (watched_in clients five) (heard 15) (heard_at 61_440) 61_441 16 state_heard (sender ∷ []) behind
    (learned 65_537 one_hash) (omega arith) (Refused BookFull) refl
