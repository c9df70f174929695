-- Records one after the other.
-- Serves: run_rpc in rpc_streams, whose loop takes one record more in each turn.
use Rattle.std.proofs.Common.{ℕ, List, [], ◌∷◌, ◌++◌, refl, sym, append_assoc}
use Rattle.std.proofs.lemmas.List.{append-nil}
use Rattle.rpc.specs.Records.Record.{IsRecord}
use Rattle.rpc.specs.Records.Stream.{AreRecords}

-- one record more
pub AreRecords-push : (text : List ℕ) (rs : List (List ℕ)) (more r : List ℕ) → AreRecords text rs
    → IsRecord more r → AreRecords (text ++ more) (rs ++ r ∷ [])
AreRecords-push text [] more r e is = (more, [], is, refl, rw e (sym (append-nil more)))
AreRecords-push text (s ∷ rs) more r (first, others, is', are, e) is = (
  first,
  others ++ more,
  is',
  AreRecords-push others rs more r are is,
  rw e (append_assoc first others more),
)
