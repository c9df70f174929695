use Rattle.std.proofs.Common.{refl, arith, []}
use Rattle.state_spec.specs.State.{opening_client}
use Rattle.witness_spec.specs.Refusals.{TooFar, BookFull}
use Rattle.witness_spec.specs.Replies.{Refused}
use Rattle.witness_examples.specs.Reaching.{watched_in}
use Rattle.witness_examples.specs.Worked.{five, learned, one_hash}
use Rattle.witness_examples.specs.Limits.Audits.{clients, rounds, hash_at}
use Rattle.witness_examples.proofs.OfLimits.Audits.{then_asked}
use Rattle.witness_examples.proofs.OfLimits.Rounds.{QuietRounds, quiet_rounds}
use Rattle.witness_examples.proofs.limits.limits.sixteen_audits.Goals as goal

all_rounds : QuietRounds 16
all_rounds = quiet_rounds 16 (omega arith)

pub returns-clause-own : goal.returns-clause-own
returns-clause-own c = all_rounds.owed

pub returns-clause-end : goal.returns-clause-end
returns-clause-end c = all_rounds.at_end

pub returns-clause-full : goal.returns-clause-full
returns-clause-full c =
    then_asked (watched_in clients five) (rounds 16) hash_at 65_536 16 (opening_client 5) [] all_rounds
    (learned 65_537 one_hash)
    (omega arith) (Refused BookFull) refl

pub returns-clause-near : goal.returns-clause-near
returns-clause-near c =
    then_asked (watched_in clients five) (rounds 16) hash_at 65_536 16 (opening_client 5) [] all_rounds
    (learned 69_632 one_hash)
    (omega arith) (Refused BookFull) refl

pub returns-clause-far : goal.returns-clause-far
returns-clause-far c =
    then_asked (watched_in clients five) (rounds 16) hash_at 65_536 16 (opening_client 5) [] all_rounds
    (learned 69_633 one_hash)
    (omega arith) (Refused TooFar) refl
