use Rattle.witness_laws.proofs.Replied as proof
use Rattle.witness_laws.proofs.laws.one_reply.Goals as goal

-- the law
pub returns : goal.returns
returns c = proof.one_reply
