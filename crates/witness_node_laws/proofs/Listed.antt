-- A member that is a node begins as the node's log does.
-- Serves: a_node_keeps_a_log.
use Rattle.std.proofs.Common.{◌≡◌, ℕ, List, [], ◌∷◌, map, refl, sym, ap₂, subst, ◌∙◌}
use Rattle.std.specs.List.{AllByRecursion}
use Rattle.xdr.specs.Item.{Fits}
use Rattle.authenticator.specs.declared.member.Member.{Member}
use Rattle.secure_log.specs.LogEntries.Chain.{Logged}
use Rattle.secure_log.specs.LogEntries.Entry.{entry_item, entry_value}
use Rattle.node_logs.specs.replay_spec.Bodies.{HasBytes}
use Rattle.node_logs.specs.replay_spec.LogLaws.LoggedMessages.{entries_of}
use Rattle.state_spec.specs.State.{Machine, Server, Client}
use Rattle.node_logs.specs.replay_spec.HonestLogs.{IsHonestLog}
use Rattle.node_logs.specs.Steps.Nodes.{NodeParts, opening_like}
use Rattle.node_logs.specs.replay_spec.Opening.{kind_of, opening_by, opening_of}
use Rattle.witness_node_laws.specs.Logs.{IsListedAs}

opens_alike : (machine : Machine) (node : ℕ) → opening_by (kind_of machine) node ≡ opening_like machine node
opens_alike (Server w stage) node = refl
opens_alike (Client clock) node = refl

-- A node's log is honest from the state that a member begins with which is this node.
pub honest_from : (n : NodeParts) (m : Member) → IsListedAs n m
    → IsHonestLog n.roster (opening_like n.state.machine n.node) n.entries n.state
    → IsHonestLog n.roster (opening_of m) n.entries n.state
honest_from n m listed h =
    subst (λ o. IsHonestLog n.roster o n.entries n.state)
    (sym (ap₂ opening_by listed.kind listed.node ∙ opens_alike n.state.machine n.node)) h

-- ---- what entries have by their types

-- each entry of a log has a text, where all of them have
pub each_fits : (log : List Logged) → AllByRecursion (Fits entry_item) (map entry_value (entries_of log))
    → AllByRecursion (λ l. Fits entry_item (entry_value l.entry)) log
each_fits [] h = tt
each_fits (l ∷ log) h = (h.0, each_fits log h.1)

-- and a body of bytes
pub each_has_bytes : (log : List Logged) → AllByRecursion HasBytes (entries_of log)
    → AllByRecursion (λ l. HasBytes l.entry) log
each_has_bytes [] h = tt
each_has_bytes (l ∷ log) h = (h.0, each_has_bytes log h.1)
