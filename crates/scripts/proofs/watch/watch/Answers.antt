use Rattle.scripts.proofs.Running.{watched}
use Rattle.scripts.proofs.watch.watch.Goals as goal

-- its lines ran, and it closed
pub returns-clause-watched : goal.returns-clause-watched
returns-clause-watched g c =
    watched _ _ _ _ _ _ _ c.requires.new c.in_ok-pass.ensures.turns c.in_ok-end.ensures.end
    c.in_ok-end.ensures.began c.in_ok-end.ensures.pass c.in_ok-end.ensures.wrote
