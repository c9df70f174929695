-- A step is a run of one event.
use Rattle.std.proofs.Common.{◌∷◌, [], refl}
use Rattle.witness_books.proofs.laws.steps_keep_the_headline.Goals as goal

-- so it keeps the headline, as each run does
pub returns : goal.returns
returns c g old new event reply step =
    c.runs_keep_the_headline.ensures g old new (event ∷ []) (reply ∷ [])
    (c.runs_are_histories.ensures.steps g old new (event ∷ []) (reply ∷ []) (new, (step, refl)))
