use Rattle.std.proofs.Common.{rules, not}
use Rattle.std.proofs.lemmas.Fn.{filter_same}
use Rattle.witness_spec.specs.Standing.{is_answered}
use Rattle.node_book.specs.Replies.{challenge_in}
use Rattle.node_book.proofs.Mapped.{kept_by}
use Rattle.node_book.proofs.challenges.close_answered.Goals as goal

-- what stays are those that the closure keeps
pub returns : goal.returns
returns c =
    kept_by (λ x. not (is_answered c.args.segment.now x)) challenge_in c.args.challenges.now.items _
    (filter_same _ (λ x. not (is_answered c.args.segment.now (challenge_in x))) _
    (λ x b f' k. search rules) _ _ c.retain.ensures.filtered)
