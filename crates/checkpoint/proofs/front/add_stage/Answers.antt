use Rattle.checkpoint.proofs.front.add_stage.Goals as goal

pub returns-in-Heard : goal.returns-in-Heard
returns-in-Heard c = rw c.in-Heard.is c.add_message.ensures

pub returns-in-Owes : goal.returns-in-Owes
returns-in-Owes c = rw c.in-Owes.is c.add_message-in-Owes.ensures
