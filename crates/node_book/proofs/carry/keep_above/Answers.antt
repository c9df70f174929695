-- What is kept is what lies above the end.
use Rattle.std.proofs.Common.{rules}
use Rattle.std.proofs.lemmas.Fn.{filter_same}
use Rattle.node_book.proofs.carry.keep_above.Goals as goal

-- those that stay are those with numbers above the end
pub returns : goal.returns
returns c = filter_same _ _ _ (λ x b f' k. search rules) _ _ c.retain.ensures.filtered
