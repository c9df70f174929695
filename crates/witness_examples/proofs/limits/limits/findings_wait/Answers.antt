use Rattle.std.proofs.Common.{refl, arith, [], ◌∷◌}
use Rattle.witness_spec.specs.Refusals.{OutboxFull}
use Rattle.witness_spec.specs.Replies.{Asked, Refused}
use Rattle.witness_examples.specs.Reaching.{watched_in}
use Rattle.witness_examples.specs.Worked.{five, learned, one_hash}
use Rattle.witness_examples.specs.Limits.Audits.{clients, sender, state_heard, heard, forwarded_one}
use Rattle.witness_examples.proofs.OfLimits.Audits.{Quiet, then_asked, is_waiting, then_forward, forwarded}
use Rattle.witness_examples.proofs.OfLimits.Rounds.{heard_at, quiet_heard}
use Rattle.witness_examples.proofs.limits.limits.findings_wait.Goals as goal

abbrev behind : Quiet (watched_in clients five) (heard 0) (heard_at 0) 1 1 state_heard (sender ∷ [])
behind = quiet_heard 0 (omega arith)

abbrev none_left : Quiet (watched_in clients five) forwarded_one (heard_at 0) 1 1 state_heard []
none_left = forwarded (watched_in clients five) (heard 0) (heard_at 0) 1 1 state_heard sender [] behind

pub returns-clause-waits : goal.returns-clause-waits
returns-clause-waits c =
    is_waiting (watched_in clients five) (heard 0) (heard_at 0) 1 1 state_heard (sender ∷ []) behind

pub returns-clause-room : goal.returns-clause-room
returns-clause-room c =
    then_asked (watched_in clients five) (heard 0) (heard_at 0) 1 1 state_heard (sender ∷ []) behind
    (learned 4_096 one_hash)
    (omega arith) (Asked 2 4_096) refl

pub returns-clause-no_room : goal.returns-clause-no_room
returns-clause-no_room c =
    then_asked (watched_in clients five) (heard 0) (heard_at 0) 1 1 state_heard (sender ∷ []) behind
    (learned 4_097 one_hash)
    (omega arith) (Refused OutboxFull) refl

pub returns-clause-forwarded : goal.returns-clause-forwarded
returns-clause-forwarded c =
    then_forward (watched_in clients five) (heard 0) (heard_at 0) 1 1 state_heard (sender ∷ [])
    behind

pub returns-clause-empty : goal.returns-clause-empty
returns-clause-empty c =
    then_forward (watched_in clients five) forwarded_one (heard_at 0) 1 1 state_heard [] none_left

pub returns-clause-room_again : goal.returns-clause-room_again
returns-clause-room_again c =
    then_asked (watched_in clients five) forwarded_one (heard_at 0) 1 1 state_heard [] none_left
    (learned 4_097 one_hash)
    (omega arith) (Asked 2 4_097) refl
