use Rattle.checkpoint.specs.state_spec.State.{opening_server, opening_client}
use Rattle.replay.proofs.Openings.{none_received, none_sent, gives_none_received, gives_none_sent}
use Rattle.replay.proofs.opening.opening_state.Goals as goal

pub returns-in-Server-clause-none_received : goal.returns-in-Server-clause-none_received
returns-in-Server-clause-none_received c =
    let node = c.args.member.now.node in
    gives_none_received node (opening_server node).machine c.opening_server.result c.opening_server.ensures

pub returns-in-Server-clause-none_sent : goal.returns-in-Server-clause-none_sent
returns-in-Server-clause-none_sent c =
    let node = c.args.member.now.node in
    gives_none_sent node (opening_server node).machine c.opening_server.result c.opening_server.ensures

pub returns-in-Client-clause-none_received : goal.returns-in-Client-clause-none_received
returns-in-Client-clause-none_received c =
    let node = c.args.member.now.node in
    none_received node (opening_client node).machine c.opening_client.result.state
    c.opening_client.ensures.state

pub returns-in-Client-clause-none_sent : goal.returns-in-Client-clause-none_sent
returns-in-Client-clause-none_sent c =
    let node = c.args.member.now.node in
    none_sent node (opening_client node).machine c.opening_client.result.state c.opening_client.ensures.state
