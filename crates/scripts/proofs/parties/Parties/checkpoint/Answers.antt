use Rattle.std.proofs.Common.{refl}
use Rattle.scripts.proofs.OneNode.{one_becomes}
use Rattle.scripts.proofs.parties.Parties.checkpoint.Goals as goal

-- the server at the place that was found
pub returns-clause-some : goal.returns-clause-some
returns-clause-some c = record {
  clients = refl;
  servers = one_becomes _ _ _ _ _ _ _ c.deref.ensures.value c.in_ok-place.ensures.some c.in_ok-place.ensures.node
      c.index_mut.ensures.value c.checkpoint.ensures;
}
