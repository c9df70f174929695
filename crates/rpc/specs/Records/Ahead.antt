-- A record in front of some bytes, whole and as one fragment.
use Rattle.std.specs.Prelude.{◌≡◌, ◌≤◌, ◌++◌, ℕ, List, length, true}
use Rattle.rpc.specs.Records.Record.{fragment}
use Rattle.rpc.specs.declared.records.record.TheConstants.{MAX_RECORD}

-- The bytes begin with a record within the limit.
abbrev pub IsInFront : List ℕ → List ℕ → Type 0
IsInFront record_bytes bytes =
    (length record_bytes ≤ MAX_RECORD) × (rest : List ℕ) × (bytes ≡ fragment true record_bytes ++ rest)

-- They begin with none.
abbrev pub HasNoneInFront : List ℕ → Type 0
HasNoneInFront bytes = (record_bytes : List ℕ) → IsInFront record_bytes bytes → ⊥
