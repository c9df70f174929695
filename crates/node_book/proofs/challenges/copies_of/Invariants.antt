use Rattle.std.proofs.Common.{◌≡◌, take}
use Rattle.node_book.proofs.challenges.copies_of.Given as goal

abbrev pub invariant-loop-challenge : goal.invariant-loop-challenge
invariant-loop-challenge l = l.copies.items ≡ take l.challenge-index l.challenges
