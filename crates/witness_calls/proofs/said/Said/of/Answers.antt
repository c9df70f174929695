use Rattle.std.proofs.Common.{ap, inl, inr}
use Rattle.witness_books.specs.node_book.replay_jobs.Jobs.{done_parts}
use Rattle.witness_books.specs.node_book.Replies.{reply_in}
use Rattle.witness_calls.proofs.said.Said.of.Goals as goal

pub returns-in-Job : goal.returns-in-Job
returns-in-Job c = inr (inr (c.in-Job.job, ap reply_in c.in-Job.is))

pub returns-in-FileRefused : goal.returns-in-FileRefused
returns-in-FileRefused c = inr (inl (done_parts c.in-FileRefused.done, ap reply_in c.in-FileRefused.is))

pub returns-in-PutBackRefused : goal.returns-in-PutBackRefused
returns-in-PutBackRefused c = inr (inr (c.in-PutBackRefused.job, ap reply_in c.in-PutBackRefused.is))
