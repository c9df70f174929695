use Rattle.nfs_laws.proofs.OfSizes.ReadCalls.{bounded, has_words}
use Rattle.nfs_laws.proofs.sizes.laws.read_calls_are_bounded.Goals as goal

-- the law
pub returns : goal.returns
returns c call h = (bounded call h, has_words call h)
