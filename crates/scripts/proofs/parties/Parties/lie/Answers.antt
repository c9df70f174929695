use Rattle.std.proofs.Common.{refl}
use Rattle.scripts.proofs.OneNode.{one_becomes}
use Rattle.scripts.proofs.parties.Parties.lie.Goals as goal

-- the server at the place that was found
pub returns-in-Some-clause-lies : goal.returns-in-Some-clause-lies
returns-in-Some-clause-lies c = λ is. record {
  clients = refl;
  servers = one_becomes _ _ _ _ _ _ _ c.deref.ensures.value c.in-Some.ensures.some c.in-Some.ensures.node
      c.index_mut.ensures.value c.lie.ensures;
}
