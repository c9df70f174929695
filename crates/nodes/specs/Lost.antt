-- What a node signed, and its log lacks.
use Rattle.std.specs.Prelude.{◌≡◌, ℕ, Some}
use Rattle.authenticator.specs.Numbers.{number_in}
use Rattle.authenticator.specs.Signed.{IsSignedIn}
use Rattle.authenticator.specs.declared.authenticator.Authenticator.{Authenticator}
use Rattle.secure_log.specs.Log.{hash_at}
use Rattle.node_logs.specs.Nodes.{NodeParts}

-- The number for which its word stands and its hash are a pair of the node's log.
abbrev pub Stands : NodeParts → Authenticator → Type 0
Stands n a = hash_at n.entries (number_in n.log_version a.word) ≡ Some a.hash

-- It names the node, and its signature is that of the node's key in the roster.
abbrev pub IsOwn : NodeParts → Authenticator → Type 0
IsOwn n a = (a.node ≡ n.node) × IsSignedIn n.roster a

-- The node signed it, at this number, and it doesn't stand in the log.
pub record IsLost (n : NodeParts) (a : Authenticator) (number : ℕ) : Type 0 where
  pub own : IsOwn n a
  pub gone : ¬ Stands n a
  pub at : number ≡ number_in n.log_version a.word
