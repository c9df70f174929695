use Rattle.std.proofs.Common.{◌≡◌, None, Some, IfOk, sym, ap, subst, ◌∙◌}
use Rattle.evidence_spec.specs.Showing.{versioned_showing}
use Rattle.witness_spec.specs.Exposing.{fork_of}
use Rattle.witness_spec.specs.Pairs.{last_of}
use Rattle.witness_book_laws.specs.Answers.{answer_fork}
use Rattle.witness_book_laws.specs.Going.{evidence_of}
use Rattle.node_book.specs.Rows.{book_in}
use Rattle.node_book.proofs.LookUps.{fork_of_answer}
use Rattle.node_book.proofs.rows.Rows.fork_by_segment.Goals as goal

-- no number was looked up
pub returns-in_default : goal.returns-in_default
returns-in_default c =
    let b = book_in c.args.self.now in
    let s = c.args.segment.now.segment in
    let looked : None ≡ answer_fork b s =
    c.in_default.ensures ∙ ap (λ x. answer_fork b x.segment) c.closed.ensures.segment in
    sym (fork_of_answer b s (last_of s) None c.requires.ready c.requires.hidden c.requires.asked looked)

-- a number was
pub returns : goal.returns
returns c =
    let b = book_in c.args.self.now in
    let s = c.args.segment.now.segment in
    let n = c.in-Some.number in
    let looked : Some n ≡ answer_fork b s =
    c.in-Some.ensures ∙ ap (λ x. answer_fork b x.segment) c.closed.ensures.segment in
    let fork =
    fork_of_answer b s (last_of s) (Some n) c.requires.ready c.requires.hidden c.requires.asked looked in
    let new = c.in_ok-new.ensures.parts ∙ ap (λ x. versioned_showing x.segment) c.closed-2.ensures.segment in
    subst (λ e. IfOk c.fork_at.result (λ x. x ≡ e))
    (ap (λ w. evidence_of b (fork_of b.base b.log_version b.learned b.segments w n)) new ∙ sym fork) c.fork_at.ensures
