use Rattle.lamport.proofs.ShownKeys.{one_leaf_hash, signature_shows}
use Rattle.merkle_keys.proofs.laws.signed_under_the_key_shown.Goals as goal

-- all keys that the signature shows have one leaf hash, so either path leads to the root where the other does
pub returns : goal.returns
returns c root height digest signature hash shows =
    let same = one_leaf_hash digest signature.shown signature.other _ _
    (signature_shows digest signature.shown signature.other) shows in (
      λ signed. record {
        low = signed.low;
        leaf = signed.leaf;
        levels = signed.levels;
        leads =
            rw (← same) signed.leads;
      },
      λ leads. record {
        low = leads.low;
        leaf = leads.leaf;
        levels = leads.levels;
        leads =
            rw same leads.leads;
      },
    )
