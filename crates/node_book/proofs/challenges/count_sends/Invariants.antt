use Rattle.std.proofs.Common.{◌≡◌, count_by, take}
use Rattle.witness_spec.specs.Owing.{is_send}
use Rattle.node_book.specs.Replies.{challenge_in}
use Rattle.node_book.proofs.challenges.count_sends.Given as goal

abbrev pub invariant-loop-challenge : goal.invariant-loop-challenge
invariant-loop-challenge l =
    l.count ≡ count_by (λ x. is_send (challenge_in x)) (take l.challenge-index l.challenges)
