use Rattle.std.specs.Prelude.{◌≡◌}
use Rattle.remote_sharing.proofs.rounds.carry.Given as goal

abbrev pub invariant-loop-round : goal.invariant-loop-round
invariant-loop-round g l = l.caller.begun ≡ l.initial.caller.begun
