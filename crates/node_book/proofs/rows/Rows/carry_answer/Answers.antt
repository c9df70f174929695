use Rattle.std.proofs.Common.{◌≡◌, ◌∙◌, ap, arith, filter, map, not, subst}
use Rattle.std.proofs.lemmas.Grind.{common_steps}
use Rattle.witness_spec.specs.Standing.{is_answered}
use Rattle.node_book.specs.Replies.{challenge_in}
use Rattle.node_book.proofs.rows.Rows.carry_answer.Goals as goal

-- what the segment answers is closed
pub returns-in-Accepted-clause-after : goal.returns-in-Accepted-clause-after
returns-in-Accepted-clause-after c =
    let same : c.segment.result.now ≡ c.args.segment.segment =
    c.segment.ensures.segment ∙ ap (λ x. x.segment) c.closed.ensures.segment in
    let closed : map challenge_in c.close_answered.new.challenges.items
    ≡ filter (λ x. not (is_answered c.args.segment.segment x)) (map challenge_in c.args.self.now.challenges.items) =
    subst (λ s. map challenge_in c.close_answered.new.challenges.items
    ≡ filter (λ x. not (is_answered s x)) (map challenge_in c.args.self.now.challenges.items)) same c.close_answered.ensures in
    grind (arith, common_steps, closed)
