use Rattle.fs_spec.proofs.Walks.{walk_apart}
use Rattle.fs_spec.proofs.laws.walks_change_where_they_pass.Goals as goal

-- by the first step that passes the entry
pub returns : goal.returns
returns c = walk_apart
