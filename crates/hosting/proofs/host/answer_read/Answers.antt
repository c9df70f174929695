use Rattle.hosting.proofs.host.answer_read.Goals as goal

pub returns-in-Deliver : goal.returns-in-Deliver
returns-in-Deliver c = rw (c.in-Deliver.is) (c.deliver.ensures c.args.host.now)
