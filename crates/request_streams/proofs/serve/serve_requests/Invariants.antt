use Rattle.request_streams.proofs.OfServing.{Progress}
use Rattle.request_streams.proofs.serve.serve_requests.Given as goal

abbrev pub invariant-loop : goal.invariant-loop
invariant-loop g l =
    Progress (g.A.Answerer.answers l.initial.answerer) (g.A.Answerer.answers l.answerer) l.reader.fault
    (g.R.Read.remaining l.initial.reader.reader.inner) (g.W.Write.contents l.initial.writer.inner)
    (g.R.Read.remaining l.reader.reader.inner) (g.W.Write.contents l.writer.inner)
