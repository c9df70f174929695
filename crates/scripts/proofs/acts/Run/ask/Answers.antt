use Rattle.scripts.proofs.Answering.{if_ok, withheld}
use Rattle.scripts.proofs.acts.Run.ask.Goals as goal

pub returns-in-Err : goal.returns-in-Err
returns-in-Err g c =
    if_ok c.said.result (λ text is. withheld _ _ _ _ _ c.in-Err.ensures.said is) c.said.ensures
