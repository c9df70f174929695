-- What holds of replies: each law is the contract of a function in src/laws.rt.
use Rattle.std.specs.Prelude.{◌≡◌, ◌↔◌, ℕ, List, None}
use Rattle.nfs_items.specs.Timeval.{Timeval}
use Rattle.server_spec.specs.World.{World}
use Rattle.server_spec.specs.Replies.{reply_owed}
use Rattle.remote.specs.Replies.{IsOwed}

-- Whether a reply is owed is not the server's to say, nor does it depend on its files or the time: it follows
-- from the bytes alone.
abbrev pub RepliesAreOwedToCalls : Type 0
RepliesAreOwedToCalls =
    (w : World) (time : Timeval) (bytes : List ℕ) → (reply_owed w time bytes ≡ None) ↔ (¬ IsOwed bytes)
