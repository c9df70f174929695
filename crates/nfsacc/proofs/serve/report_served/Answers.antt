use Rattle.nfsacc.proofs.serve.report_served.Goals as goal

-- the status is that of what came to its end
pub returns-in-Ok-clause-part : goal.returns-in-Ok-clause-part
returns-in-Ok-clause-part g c = rw c.in-Ok.is c.status_of-status.ensures.part

pub returns-in-Ok-clause-done : goal.returns-in-Ok-clause-done
returns-in-Ok-clause-done g c = rw c.in-Ok.is c.status_of-status.ensures.done

pub returns-in-Ok-clause-open : goal.returns-in-Ok-clause-open
returns-in-Ok-clause-open g c = rw c.in-Ok.is c.status_of-status.ensures.open
