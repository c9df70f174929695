use Rattle.std.proofs.Common.{rules, not}
use Rattle.std.proofs.lemmas.Fn.{filter_same}
use Rattle.witness_spec.specs.Standing.{is_send_of}
use Rattle.node_book.specs.Replies.{challenge_in}
use Rattle.node_book.proofs.Mapped.{kept_by}
use Rattle.node_book.proofs.challenges.close_send.Goals as goal

-- what stays are those that the closure keeps
pub returns : goal.returns
returns c =
    kept_by (λ x. not (is_send_of c.args.message.now x)) challenge_in c.args.challenges.now.items _
    (filter_same _ (λ x. not (is_send_of c.args.message.now (challenge_in x))) _
    (λ x b f' k. search rules) _ _ c.retain.ensures.filtered)
