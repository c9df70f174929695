-- What is decided of a job that comes back is of the step's own. Where memory ran out the book owes more than
-- a refusal or Already.
use Rattle.std.proofs.Common.{ap, subst, sym, ◌∙◌}
use Rattle.witness_spec.specs.Steps as steps
use Rattle.node_book.specs.Deciding.{Decides, DecidesReturn}
use Rattle.node_book.specs.Events.{question_in, step_in}
use Rattle.node_book.specs.Rows.{book_in}
use Rattle.node_book.specs.Stepping.{MayRunOut, is_refusal_or_already}
use Rattle.node_book.specs.declared.decision.Decision.TheVariants.{File, PutBack}
use Rattle.node_book.proofs.Wanting.{if_err, told_is_more, without_job}
use Rattle.node_book.proofs.rows.Rows.decide.Goals as goal

-- of a done value
pub returns-in-File-clause-ok : goal.returns-in-File-clause-ok
returns-in-File-clause-ok c =
    let b = book_in c.args.self.now in
    subst (λ s. Decides b s (File c.decide_coming.result)) (sym c.in-File.is)
    (subst (λ j. DecidesReturn b j c.decide_coming.result) (c.job.ensures ∙ c.plain.ensures.plain)
    c.decide_coming.ensures)

-- of a job
pub returns-in-PutBack-clause-ok : goal.returns-in-PutBack-clause-ok
returns-in-PutBack-clause-ok c =
    let b = book_in c.args.self.now in
    subst (λ s. Decides b s (PutBack c.decide_coming-in-PutBack.result)) (sym c.in-PutBack.is)
    (subst (λ j. DecidesReturn b j c.decide_coming-in-PutBack.result) c.plain-in-PutBack.ensures.plain
    c.decide_coming-in-PutBack.ensures)

-- of an authenticator
pub returns-in_err-decide_learn-in-Learn-clause-err : goal.returns-in_err-decide_learn-in-Learn-clause-err
returns-in_err-decide_learn-in-Learn-clause-err c =
    let b = book_in c.args.self.now in
    if_err c.from_residual.result
    (subst (λ s. MayRunOut b (step_in s)) (sym c.in-Learn.is)
    (without_job b (steps.Learn c.in-Learn.a) (λ out. out) tt
    (ap is_refusal_or_already c.in_err-decide_learn-in-Learn.ensures.err)))

-- of a segment
pub returns-in_err-decide_answer-in-Answer-clause-err : goal.returns-in_err-decide_answer-in-Answer-clause-err
returns-in_err-decide_answer-in-Answer-clause-err c =
    let b = book_in c.args.self.now in
    if_err c.from_residual-in_err-decide_answer-in-Answer.result
    (subst (λ s. MayRunOut b (step_in s)) (sym c.in-Answer.is)
    (without_job b (steps.Answer c.in-Answer.segment) (λ out. out) tt
    (ap is_refusal_or_already c.in_err-decide_answer-in-Answer.ensures.err)))

-- of a question
pub returns-in_err-decide_ask-in-Ask-clause-err : goal.returns-in_err-decide_ask-in-Ask-clause-err
returns-in_err-decide_ask-in-Ask-clause-err c =
    let b = book_in c.args.self.now in
    if_err c.from_residual-in_err-decide_ask-in-Ask.result
    (subst (λ s. MayRunOut b (step_in s)) (sym c.in-Ask.is)
    (without_job b (steps.Ask (question_in c.in-Ask.question)) (λ out. out)
    c.in_err-decide_ask-in-Ask.ensures.err (told_is_more b (question_in c.in-Ask.question))))
