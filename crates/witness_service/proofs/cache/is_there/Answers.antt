use Rattle.std.proofs.Common.{◌∙◌}
use Rattle.witness_service.specs.Hashing.{ref_bytes}
use Rattle.witness_service.proofs.Keys.{kept_as}
use Rattle.witness_service.proofs.cache.is_there.Goals as goal

-- the key is found exactly where its bytes are kept
pub returns : goal.returns
returns c = c.contains.ensures ∙ kept_as (ref_bytes c.args.key) c.args.kept.now.entries
