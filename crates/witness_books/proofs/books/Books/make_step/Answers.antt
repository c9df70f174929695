use Rattle.std.proofs.Common.{List, [], ◌∷◌, map, ap, subst, ◌∙◌}
use Rattle.node_book.specs.witness_spec.Contract.{StepsTo}
use Rattle.node_book.specs.witness_book_laws.Books.{Book, parts_of}
use Rattle.node_book.specs.witness_spec.Watched.{watched}
use Rattle.node_book.specs.Events.{event_in, step_in}
use Rattle.node_book.specs.Replies.{reply_in}
use Rattle.witness_books.specs.Books.{BooksParts, bases_in, beginning_in, beginning_of, parts_in}
use Rattle.witness_books.specs.Memory.{RunsOutWhereItMay, RunOutForMore}
use Rattle.witness_books.proofs.Memory.{refused_for_more, refused_runs_out, step_for_more, step_runs_out}
use Rattle.witness_books.proofs.Places.{can_step}
use Rattle.witness_books.proofs.Refused.{all_stay}
use Rattle.witness_books.proofs.Stepping.{its_member, refused_steps, step_goes}
use Rattle.witness_books.proofs.books.Books.make_step.Goals as goal

pub step_of-requires-clause-member : goal.step_of-requires-clause-member
step_of-requires-clause-member c =
    its_member c.self.inside.roster (event_in c.args.event) c.in-Step.member (step_in c.in-Step.step)
    c.in-Step.ensures.goes

pub step_of-requires-clause-can : goal.step_of-requires-clause-can
step_of-requires-clause-can c =
    let g = beginning_in c.self.inside.roster c.self.inside.bases.items in
    let member =
    its_member c.self.inside.roster (event_in c.args.event) c.in-Step.member (step_in c.in-Step.step)
    c.in-Step.ensures.goes in
    can_step c.books_are_ready.ensures.ready g c.in-Step.member c.self.inside.books.items
    (step_in c.in-Step.step) c.self.invariant.ready member
    (c.books_are_ready.ensures.of_log (watched g c.in-Step.member) (event_in c.args.event)
    (step_in c.in-Step.step) c.route.ensures.is_event c.in-Step.ensures.goes.whose_is)

pub invariant_of-self : goal.invariant_of-self
invariant_of-self c =
    let g = beginning_in c.self.inside.roster c.self.inside.bases.items in
    let goes = step_goes c.books_are_ready.ensures.step c.what_leaves_books.ensures.want g
    c.in-Step.member c.self.inside.books.items c.step_of.new.books.items (event_in c.args.event)
    (step_in c.in-Step.step) (reply_in c.step_of.result) c.self.invariant.roster c.self.invariant.ready
    c.route.ensures.is_event c.in-Step.ensures.goes c.step_of.ensures in
    record { roster = c.self.invariant.roster; ready = goes.ready }

pub returns-in-Refused-clause-steps : goal.returns-in-Refused-clause-steps
returns-in-Refused-clause-steps c =
    let g = beginning_in c.self.inside.roster c.self.inside.bases.items in
    subst (λ (b : BooksParts). StepsTo (beginning_of b) (parts_in b) (event_in c.args.event)
    (reply_in c.in-Refused.reply) (parts_in b)) c.self.view_is
    (refused_steps c.what_leaves_books.ensures.out c.what_leaves_books.ensures.want g
    c.self.inside.books.items (event_in c.args.event) (reply_in c.in-Refused.reply) c.route.ensures.is_event
    c.in-Refused.ensures.goes)

pub returns-in-Step-clause-steps : goal.returns-in-Step-clause-steps
returns-in-Step-clause-steps c =
    let g = beginning_in c.self.inside.roster c.self.inside.bases.items in
    let goes = step_goes c.books_are_ready.ensures.step c.what_leaves_books.ensures.want g
    c.in-Step.member c.self.inside.books.items c.step_of.new.books.items (event_in c.args.event)
    (step_in c.in-Step.step) (reply_in c.step_of.result) c.self.invariant.roster c.self.invariant.ready
    c.route.ensures.is_event c.in-Step.ensures.goes c.step_of.ensures in
    subst (λ (b : BooksParts). StepsTo (beginning_of b) (parts_in b) (event_in c.args.event)
    (reply_in c.step_of.result) (map parts_of c.step_of.new.books.items)) c.self.view_is goes.steps

pub returns-in-Step-clause-stays : goal.returns-in-Step-clause-stays
returns-in-Step-clause-stays c refused =
    ap (λ (bs : List Book). record {
      roster = c.self.inside.roster;
      bases = bases_in c.self.inside.bases.items;
      books = bs;
    })
    (all_stay c.self.inside.roster c.in-Step.member.node c.self.inside.books.items c.step_of.new.books.items
    (step_in c.in-Step.step) (reply_in c.step_of.result) c.step_of.ensures refused)
    ∙ c.self.view_is

pub returns-in-Refused-clause-memory : goal.returns-in-Refused-clause-memory
returns-in-Refused-clause-memory c =
    let g = beginning_in c.self.inside.roster c.self.inside.bases.items in
    subst (λ (b : BooksParts). RunsOutWhereItMay b.roster (event_in c.args.event)
    (reply_in c.in-Refused.reply)) c.self.view_is
    (refused_runs_out c.left_out_changes_nothing.ensures.out g (event_in c.args.event)
    (reply_in c.in-Refused.reply) c.in-Refused.ensures.goes)

pub returns-in-Step-clause-memory : goal.returns-in-Step-clause-memory
returns-in-Step-clause-memory c =
    let g = beginning_in c.self.inside.roster c.self.inside.bases.items in
    subst (λ (b : BooksParts). RunsOutWhereItMay b.roster (event_in c.args.event) (reply_in c.step_of.result))
    c.self.view_is
    (step_runs_out g c.in-Step.member c.self.inside.books.items c.step_of.new.books.items
    (event_in c.args.event) (step_in c.in-Step.step) (reply_in c.step_of.result) c.self.invariant.roster
    c.self.invariant.ready c.route.ensures.is_event c.in-Step.ensures.goes c.step_of.ensures)

pub returns-in-Refused-clause-more : goal.returns-in-Refused-clause-more
returns-in-Refused-clause-more c =
    let g = beginning_in c.self.inside.roster c.self.inside.bases.items in
    subst (λ (b : BooksParts). RunOutForMore (beginning_of b) (parts_in b) (event_in c.args.event ∷ [])
    (reply_in c.in-Refused.reply ∷ [])) c.self.view_is
    (refused_for_more c.left_out_changes_nothing.ensures.out g
    (map parts_of c.self.inside.books.items) (event_in c.args.event) (reply_in c.in-Refused.reply)
    c.in-Refused.ensures.goes)

pub returns-in-Step-clause-more : goal.returns-in-Step-clause-more
returns-in-Step-clause-more c =
    let g = beginning_in c.self.inside.roster c.self.inside.bases.items in
    subst (λ (b : BooksParts). RunOutForMore (beginning_of b) (parts_in b) (event_in c.args.event ∷ [])
    (reply_in c.step_of.result ∷ [])) c.self.view_is
    (step_for_more c.books_are_ready.ensures.step g c.in-Step.member
    c.self.inside.books.items c.step_of.new.books.items (event_in c.args.event) (step_in c.in-Step.step)
    (reply_in c.step_of.result) c.self.invariant.roster c.self.invariant.ready c.route.ensures.is_event
    c.in-Step.ensures.goes c.step_of.ensures)
