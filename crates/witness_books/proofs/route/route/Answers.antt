use Rattle.std.proofs.Common.{ℕ, refl}
use Rattle.node_book.specs.witness_spec.Events as spec
use Rattle.node_book.specs.witness_spec.Steps as steps
use Rattle.node_book.specs.witness_spec.Histories.{MayWant}
use Rattle.node_book.specs.Events.{question_in}
use Rattle.node_book.specs.Stepping.{StepMayWant}
use Rattle.node_book.specs.declared.event.EventOf.TheVariants as e
use Rattle.node_book.specs.declared.event.Question.{Question}
use Rattle.node_book.specs.declared.event.Question.TheVariants as q
use Rattle.node_book.specs.declared.step.Step.TheVariants as s
use Rattle.witness_books.proofs.Routes.{named_routes}
use Rattle.witness_books.proofs.route.route.Goals as goal

-- what is asked may want memory where the step may
asked_wants : (node : ℕ) (question : Question) → StepMayWant (steps.Ask (question_in question))
    → MayWant (spec.Ask node (question_in question))
asked_wants node q.Indication w = w
asked_wants node q.Challenges w = tt
asked_wants node q.Evidence w = tt

pub returns-in-Audit : goal.returns-in-Audit
returns-in-Audit c =
    named_routes _ _ _ _ s.Audit _ (e.Audit c.in-Audit.node) _ c.is_event.ensures
    c.in-Audit.is c.member_named.ensures c.give.ensures refl refl (λ f. refl) (λ w. tt)

pub returns-in-Begin : goal.returns-in-Begin
returns-in-Begin c =
    named_routes _ _ _ _ s.Begin _ (e.Begin c.in-Begin.node) _ c.is_event.ensures
    c.in-Begin.is c.member_named-in-Begin.ensures c.give-in-Begin.ensures refl refl (λ f. refl) (λ w. tt)

pub returns-in-File : goal.returns-in-File
returns-in-File c =
    named_routes _ _ _ _ (s.File c.in-File.done) _ (e.File c.in-File.done) _ c.is_event.ensures
    c.in-File.is c.member_named-in-File.ensures c.give-in-File.ensures c.node.ensures refl (λ f. refl) (λ w. tt)

pub returns-in-PutBack : goal.returns-in-PutBack
returns-in-PutBack c =
    named_routes _ _ _ _ (s.PutBack c.in-PutBack.job) _ (e.PutBack c.in-PutBack.job) _ c.is_event.ensures
    c.in-PutBack.is c.member_named-in-PutBack.ensures c.give-in-PutBack.ensures c.node-in-PutBack.ensures refl
    (λ f. refl) (λ w. w)

pub returns-in-Forward : goal.returns-in-Forward
returns-in-Forward c =
    named_routes _ _ _ _ s.Forward _ (e.Forward c.in-Forward.node) _ c.is_event.ensures
    c.in-Forward.is c.member_named-in-Forward.ensures c.give-in-Forward.ensures refl refl (λ f. refl) (λ w. tt)

pub returns-in-Ask : goal.returns-in-Ask
returns-in-Ask c =
    named_routes _ _ _ _ (s.Ask c.in-Ask.question) _ (e.Ask c.in-Ask.node c.in-Ask.question) _
    c.is_event.ensures c.in-Ask.is c.member_named-in-Ask.ensures c.give-in-Ask.ensures refl refl (λ f. refl)
    (asked_wants c.in-Ask.node c.in-Ask.question)
