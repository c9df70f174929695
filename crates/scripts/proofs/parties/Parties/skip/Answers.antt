use Rattle.std.proofs.Common.{inl, inr, refl}
use Rattle.scripts.proofs.OneNode.{one_becomes}
use Rattle.scripts.proofs.parties.Parties.skip.Goals as goal

-- the client at the place that was found
pub returns-in-Some-clause-some : goal.returns-in-Some-clause-some
returns-in-Some-clause-some c =
    inl (record {
      clients = one_becomes _ _ _ _ _ _ _ c.deref.ensures.value c.in-Some.ensures.some c.in-Some.ensures.node
          c.index_mut.ensures.value c.skip.ensures;
      servers = refl;
    })

-- the server at the place that was found
pub returns-clause-some : goal.returns-clause-some
returns-clause-some c =
    inr (record {
      clients = refl;
      servers = one_becomes _ _ _ _ _ _ _ c.deref-2.ensures.value c.in_ok-place.ensures.some
          c.in_ok-place.ensures.node c.index_mut-2.ensures.value c.skip-2.ensures;
    })
