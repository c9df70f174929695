use Rattle.challenge.proofs.find_based.find_in_based.Goals as goal

pub find_lack_after-requires-clause-good : goal.find_lack_after-requires-clause-good
find_lack_after-requires-clause-good c =
    let found = rw c.in-Some-2.is at c.in_ok-state.ensures.some in
    record { member = found.0; state = c.in-Some-2.state.state; good = found.1 }
