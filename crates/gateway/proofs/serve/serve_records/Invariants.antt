use Rattle.gateway.proofs.GatewayTurns.{Turn, IsServed}
use Rattle.gateway.proofs.GatewayExchanges.{HasAsked}
use Rattle.gateway.proofs.serve.serve_records.Given as goal

abbrev pub invariant-loop-k : goal.invariant-loop-k
invariant-loop-k g l =
    Turn (g.L.Link.may_fault l.initial.link) (g.L.Link.may_fault l.link)
    (IsServed (g.L.Link.world l.initial.link) (g.L.Link.world l.link) (g.C.Clock.readings l.initial.clock)
    (g.C.Clock.readings l.clock) l.k
    (g.R.Read.remaining l.initial.reader.reader.inner) (g.R.Read.remaining l.reader.reader.inner)
    (g.W.Write.contents l.initial.writer.inner) (g.W.Write.contents l.writer.inner))
    (HasAsked g.L.Link.exchanges g.L.Link.fails l.initial.link l.link (g.C.Clock.readings l.initial.clock)
    (g.C.Clock.readings l.clock) l.k
    (g.R.Read.remaining l.initial.reader.reader.inner) (g.R.Read.remaining l.reader.reader.inner)
    (g.W.Write.contents l.initial.writer.inner) (g.W.Write.contents l.writer.inner))
    l.reader.fault l.initial.reader.reader.count l.reader.reader.count l.initial.writer.count l.writer.count
