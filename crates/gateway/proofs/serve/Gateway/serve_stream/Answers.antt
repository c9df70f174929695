use Rattle.gateway.proofs.GatewayTurns.{part_of_nothing}
use Rattle.gateway.proofs.serve.Gateway.serve_stream.Goals.{in-Some, in-None}
use Rattle.gateway.proofs.serve.Gateway.serve_stream.Goals as goal

pub returns-then-self-clause-part : goal.returns-then-self-clause-part
returns-then-self-clause-part g c = part_of_nothing _ _ _ _

pub returns-clause-part : goal.returns-clause-part
returns-clause-part g c =
    elim c.match-fault.branch [
      | in-Some w ↦
          rw (w.result-is, w.writer-is) (part_of_nothing _ _ _ _)
      | in-None w ↦
          rw (w.result-is, w.writer-is) w.serve_records-result.ensures.part
    ]
