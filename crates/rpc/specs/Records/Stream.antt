-- A stream of records (RFC 5531, section 11).
use Rattle.std.specs.Prelude.{◌≡◌, List, [], ◌∷◌, ◌++◌, ℕ}
use Rattle.rpc.specs.Records.Record.{IsRecord}

-- A text is these records, each however it is cut.
abbrev pub AreRecords : List ℕ → List (List ℕ) → Type 0
AreRecords text [] = text ≡ []
AreRecords text (r ∷ rs) =
    (first : List ℕ) × (others : List ℕ)
    × IsRecord first r × AreRecords others rs × (text ≡ first ++ others)
