use Rattle.std.proofs.Common.{◌≡◌, false, take}
use Rattle.std.specs.List.{list_any}
use Rattle.witness_spec.specs.Standing.{is_send_of}
use Rattle.node_book.specs.Replies.{challenge_in}
use Rattle.node_book.proofs.challenges.is_open.Given as goal

abbrev pub invariant-loop-challenge : goal.invariant-loop-challenge
invariant-loop-challenge l =
    list_any (λ x. is_send_of l.message (challenge_in x)) (take l.challenge-index l.challenges) ≡ false
