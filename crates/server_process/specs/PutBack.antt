-- When a server's log was put back to an earlier one.
use Rattle.std.specs.Prelude.{◌≡◌, ℕ, List, Ok}
use Rattle.rpc.specs.Call.{message_at}
use Rattle.authenticator.specs.Signed.{authenticator_value}
use Rattle.authenticator.specs.declared.authenticator.Authenticator.{Authenticator}
use Rattle.peer_calls.specs.Calls.{Call, judged}
use Rattle.peer_calls.specs.NodeRequests.{node_ask_at}
use Rattle.peer_calls.specs.NodeRequests as asks
use Rattle.peer_calls.specs.declared.call.TheConstants.{NODE_PROGRAM}
use Rattle.node_logs.specs.Nodes.{NodeParts}
use Rattle.nodes.specs.Lost.{IsLost}
use Rattle.nodes.specs.Shareds.{HasNotStrayed}
use Rattle.server_process.specs.declared.server.Ending.{Ending}
use Rattle.server_process.specs.declared.server.Ending.TheVariants.{KeysUsedUp, PutBack, Stopped}

-- A record asks a node whether this authenticator stands in its log.
pub record Claims (bytes : List ℕ) (a : Authenticator) : Type 0 where
  pub call : Call
  pub is_call : judged NODE_PROGRAM (message_at bytes) ≡ Ok call
  pub is_asked : node_ask_at call.procedure call.arguments ≡ Ok (asks.Stands (authenticator_value a))

-- A record asks a node with its own signature whether what was signed stands in its log, and it doesn't: the node signed
-- something at this number before its log was put back to an earlier one.
pub record WasSignedBefore (n : NodeParts) (bytes : List ℕ) (number : ℕ) : Type 0 where
  pub authenticator : Authenticator
  pub claims : Claims bytes authenticator
  pub lost : IsLost n authenticator number

-- A server that hasn't strayed was asked with its own signature whether what it signed at this number stands in its log,
-- and it doesn't: the log was put back to an earlier one.
abbrev pub IsPutBack : (number : ℕ) → Type 0
IsPutBack number = (n : NodeParts) × ((bytes : List ℕ) × (HasNotStrayed n × WasSignedBefore n bytes number))

-- A server's process ended for this: for a log that was put back only where it was shown that.
abbrev pub IsEnding : Ending → Type 0
IsEnding (PutBack number) = IsPutBack number
IsEnding (KeysUsedUp calls) = Unit {0}
IsEnding Stopped = Unit {0}
