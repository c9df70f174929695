use Rattle.rpc_streams.proofs.LoopProgress.{stops_at_once}
use Rattle.rpc_streams.proofs.stream.run_rpc.Goals as goal

pub returns-in_default-clause-taken : goal.returns-in_default-clause-taken
returns-in_default-clause-taken g c = stops_at_once _ _

pub returns-in_default-with_capacity-clause-taken : goal.returns-in_default-with_capacity-clause-taken
returns-in_default-with_capacity-clause-taken g c = stops_at_once _ _

pub returns-in_default-new-clause-taken : goal.returns-in_default-new-clause-taken
returns-in_default-new-clause-taken g c = stops_at_once _ _
