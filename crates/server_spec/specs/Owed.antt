-- What a stream of records is owed.
use Rattle.std.specs.Prelude.{◌≡◌, ℕ, Bool, true, false, List, [], ◌∷◌, ◌++◌, Option, Some, None}
use Rattle.rpc.specs.Records.Record.{fragment}
use Rattle.mount_types.specs.nfs_items.Timeval.{Timeval}
use Rattle.server_spec.specs.World.{World}
use Rattle.server_spec.specs.Replies.{reply_owed, world_after}

-- the record of a reply: one fragment, the last; nothing where none is owed
abbrev pub record_of : Option (List ℕ) → List ℕ
record_of None = []
record_of (Some bytes) = fragment true bytes

-- The reply that is owed was put after what was there, or none is owed and nothing was.
abbrev pub IsReplied : Bool → Option (List ℕ) → List ℕ → List ℕ → Type 0
IsReplied true (Some text) old new = new ≡ old ++ text
IsReplied true None old new = ⊥
IsReplied false (Some text) old new = ⊥
IsReplied false None old new = new ≡ old

-- the records of the replies owed to records that come at times, one after the other
abbrev pub replies_owed : World → List (Timeval × List ℕ) → List ℕ
replies_owed w [] = []
replies_owed w (c ∷ cs) = record_of (reply_owed w c.0 c.1) ++ replies_owed (world_after w c.0 c.1) cs

-- the world after them
abbrev pub world_after_all : World → List (Timeval × List ℕ) → World
world_after_all w [] = w
world_after_all w (c ∷ cs) = world_after_all (world_after w c.0 c.1) cs
