use Rattle.std.proofs.Common.{◌≡◌, ◌⊎◌, ◌-◌, ◌^◌}
use Rattle.std.specs.Prelude.{IsSome}
use Rattle.commitment.specs.Senders.Sender.{signed_at}
use Rattle.node_logs.specs.Nodes.{sender_of}
use Rattle.auditing.proofs.accounts.last_signed.Given as goal

-- something is signed at the number, unless it is 0
abbrev pub invariant-loop-next : goal.invariant-loop-next
invariant-loop-next l = (l.last ≡ 0) ⊎ IsSome (signed_at (sender_of l.log) l.last)

abbrev pub decreases-loop-next : goal.decreases-loop-next
decreases-loop-next l = 2 ^ 64 - l.last
