-- Which long records a witness takes.
use Rattle.std.specs.Prelude.{ℕ, Bool, true, false, ◌==◌, ◌||◌, List, [], ◌∷◌, Result, Ok, Err, Option, Some}
use Rattle.std.specs.Prelude.{None}
use Rattle.std.specs.Prelude.{if◌then◌else◌}
use Rattle.xdr.specs.Item.{Value, pair, word}
use Rattle.xdr.specs.Reading.{Read, read_at}
use Rattle.frames.specs.declared.bound.TheConstants.{SHORT}
use Rattle.rpc.specs.Call.{message_at}
use Rattle.peer_calls.specs.Calls.{Call, judged}
use Rattle.peer_calls.specs.declared.call.TheConstants.{WITNESS_PROGRAM}
use Rattle.peer_calls.specs.declared.call.Unasked.{Unasked}
use Rattle.watching.specs.declared.bound.TheConstants.{MOST}

-- a node was asked for a segment
abbrev pub is_asked : List ℕ → (node : ℕ) → Bool
is_asked [] node = false
is_asked (n ∷ nodes) node = if n == node then true else is_asked nodes node

-- the node whose segment a packet brings: its first word is 3 or 5, the next one the node
abbrev pub node_read : Read (Value (pair word word)) → Option ℕ
node_read (Ok x) = if (x.0.0 == 3) || (x.0.0 == 5) then Some x.0.1 else None
node_read (Err e) = None

abbrev pub brought_by : List ℕ → Option ℕ
brought_by packet = node_read (read_at (pair word word) packet)

-- the node whose segment a call brings: one of DELIVER
abbrev pub segment_node : Result Call Unasked → Option ℕ
segment_node (Ok c) = if c.procedure == 2 then brought_by c.arguments else None
segment_node (Err e) = None

-- how many bytes a record may have that brings it
abbrev pub most_from : List ℕ → Option ℕ → ℕ
most_from nodes None = SHORT
most_from nodes (Some node) = if is_asked nodes node then MOST else SHORT

-- the same by the bytes with which it begins
abbrev pub most_bytes : List ℕ → List ℕ → ℕ
most_bytes nodes front = most_from nodes (segment_node (judged WITNESS_PROGRAM (message_at front)))
