-- What a server answers who is asked for a base.
use Rattle.std.specs.Prelude.{◌≡◌, ◌⊎◌, ◌<◌, ◌≤◌, ℕ, List, Option, Some, None}
use Rattle.secure_log.specs.LogEntries.Chain.{span}
use Rattle.node_logs.specs.Bases.{GivesBase, RefusesBase}
use Rattle.node_logs.specs.Nodes.{NodeParts}
use Rattle.node_logs.specs.declared.base_fault.BaseFault.TheVariants as faults
use Rattle.peer_calls.specs.Answers.{base_results, base_sent}

-- A node gives no base at a number: that isn't its last CHECK's, or nothing is signed after that; or too many entries
-- would be shown.
pub data HasNone (n : NodeParts) (at : ℕ) : Type 0 where
  out_of_range : RefusesBase n at faults.OutOfRange → HasNone n at
  too_long : RefusesBase n at faults.TooLong → HasNone n at

-- What a node offers above a number: the base at a number above it, which is that of its last CHECK; or none, where it
-- gives none at any number of its log above it.
pub data Offers (n : NodeParts) (after : ℕ) (base : Option (List ℕ)) : Type 0 where
  is_base : (at : ℕ) → (bytes : List ℕ) → after < at → GivesBase n at bytes → base ≡ Some bytes
      → Offers n after base
  no_base : ((at : ℕ) → after < at → at ≤ span n.entries → HasNone n at) → base ≡ None → Offers n after base

-- The results of a node that is asked for the base of a node above a number: what is sent of what it offers; and that
-- there is none, where it isn't that node.
abbrev pub IsBased : NodeParts → (node after : ℕ) → (results : List ℕ) → Type 0
IsBased n node after results =
    ((node ≡ n.node)
    × ((base : Option (List ℕ)) × Offers n after base × (results ≡ base_results (base_sent base))))
    ⊎ ((¬ (node ≡ n.node)) × (results ≡ base_results None))
