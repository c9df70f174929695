-- What the loop over records owes.
use Rattle.std.specs.Prelude.{◌-◌, ◌^◌, ℕ, min, List, ⊤}
use Rattle.stream_spec.specs.InTurn.{with_times}
use Rattle.nfs_items.specs.Timeval.{Timeval}
use Rattle.server_spec.specs.World.{opening_world}
use Rattle.server_spec.specs.Owed.{replies_owed}

-- the time of the k-th record: k seconds, at most the greatest number of 32 bits
abbrev pub time_of : ℕ → Timeval
time_of k = record { seconds = min k (2 ^ 32 - 1); microseconds = 0 }

-- what is owed to a list of records, by node 1 from its opening world
abbrev pub text_owed : List (List ℕ) → List ℕ
text_owed records = replies_owed (opening_world 1) (with_times time_of 1 records)

-- What else holds of records that were answered or not: nothing, since the server ends with the loop.
abbrev pub SaysNothing : (answered unanswered : List (List ℕ)) → Type 0
SaysNothing answered unanswered = ⊤
