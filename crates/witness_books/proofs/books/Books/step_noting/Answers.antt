use Rattle.std.proofs.Common.{List, map, ap, subst, ◌∙◌}
use Rattle.node_book.specs.witness_spec.Contract.{IsNotedStep}
use Rattle.node_book.specs.witness_book_laws.Books.{Book, parts_of}
use Rattle.node_book.specs.witness_spec.Watched.{watched}
use Rattle.node_book.specs.Events.{event_in, step_in}
use Rattle.node_book.specs.Replies.{reply_in}
use Rattle.witness_books.specs.Books.{BooksParts, bases_in, beginning_in, beginning_of, parts_in}
use Rattle.witness_books.proofs.Stepping.{its_member}
use Rattle.witness_books.proofs.Places.{can_step}
use Rattle.witness_books.proofs.Refused.{all_stay_noted}
use Rattle.witness_books.proofs.Noting.{laws_of, noting_goes, refusal_goes}
use Rattle.witness_books.proofs.books.Books.step_noting.Goals as goal

pub noted_step_of-requires-clause-member : goal.noted_step_of-requires-clause-member
noted_step_of-requires-clause-member c =
    its_member c.self.inside.roster (event_in c.args.event) c.in-Step.member (step_in c.in-Step.step)
    c.in-Step.ensures.goes

pub noted_step_of-requires-clause-can : goal.noted_step_of-requires-clause-can
noted_step_of-requires-clause-can c =
    let g = beginning_in c.self.inside.roster c.self.inside.bases.items in
    let member =
    its_member c.self.inside.roster (event_in c.args.event) c.in-Step.member (step_in c.in-Step.step)
    c.in-Step.ensures.goes in
    can_step c.books_are_ready.ensures.ready g c.in-Step.member c.self.inside.books.items
    (step_in c.in-Step.step) c.self.invariant.ready member
    (c.books_are_ready.ensures.of_log (watched g c.in-Step.member) (event_in c.args.event)
    (step_in c.in-Step.step) c.route.ensures.is_event c.in-Step.ensures.goes.whose_is)

pub invariant_of-self : goal.invariant_of-self
invariant_of-self c =
    let g = beginning_in c.self.inside.roster c.self.inside.bases.items in
    let laws = laws_of c.books_are_ready.ensures.step c.journals_are_histories.ensures.noted
    c.what_leaves_books.ensures.copied in
    let goes = noting_goes laws g c.in-Step.member c.self.inside.books.items
    c.noted_step_of.new.books.items (event_in c.args.event) (step_in c.in-Step.step) c.noted_step_of.result.0
    c.noted_step_of.result.1 c.self.invariant.roster c.self.invariant.ready c.route.ensures.is_event
    c.in-Step.ensures.goes c.noted_step_of.ensures in
    record { roster = c.self.invariant.roster; ready = goes.ready }

pub returns-in-Refused-clause-noted : goal.returns-in-Refused-clause-noted
returns-in-Refused-clause-noted c =
    let g = beginning_in c.self.inside.roster c.self.inside.bases.items in
    let laws = laws_of c.books_are_ready.ensures.step c.journals_are_histories.ensures.noted
    c.what_leaves_books.ensures.copied in
    let goes = refusal_goes laws c.what_leaves_books.ensures.out c.what_leaves_books.ensures.want g
    c.self.inside.books.items (event_in c.args.event) (reply_in c.in-Refused.refusal)
    (reply_in c.note_refusal.result.0) c.note_refusal.result.1 c.self.invariant.ready
    c.route.ensures.is_event c.in-Refused.ensures.goes c.note_refusal.ensures in
    subst (λ (b : BooksParts). IsNotedStep (beginning_of b) (parts_in b) (event_in c.args.event)
    (reply_in c.note_refusal.result.0) (parts_in b)) c.self.view_is goes.noted

pub returns-in-Refused-clause-notes : goal.returns-in-Refused-clause-notes
returns-in-Refused-clause-notes c =
    let g = beginning_in c.self.inside.roster c.self.inside.bases.items in
    let laws = laws_of c.books_are_ready.ensures.step c.journals_are_histories.ensures.noted
    c.what_leaves_books.ensures.copied in
    let goes = refusal_goes laws c.what_leaves_books.ensures.out c.what_leaves_books.ensures.want g
    c.self.inside.books.items (event_in c.args.event) (reply_in c.in-Refused.refusal)
    (reply_in c.note_refusal.result.0) c.note_refusal.result.1 c.self.invariant.ready
    c.route.ensures.is_event c.in-Refused.ensures.goes c.note_refusal.ensures in
    goes.say

pub returns-in-Step-clause-noted : goal.returns-in-Step-clause-noted
returns-in-Step-clause-noted c =
    let g = beginning_in c.self.inside.roster c.self.inside.bases.items in
    let laws = laws_of c.books_are_ready.ensures.step c.journals_are_histories.ensures.noted
    c.what_leaves_books.ensures.copied in
    let goes = noting_goes laws g c.in-Step.member c.self.inside.books.items
    c.noted_step_of.new.books.items (event_in c.args.event) (step_in c.in-Step.step) c.noted_step_of.result.0
    c.noted_step_of.result.1 c.self.invariant.roster c.self.invariant.ready c.route.ensures.is_event
    c.in-Step.ensures.goes c.noted_step_of.ensures in
    subst (λ (b : BooksParts). IsNotedStep (beginning_of b) (parts_in b) (event_in c.args.event)
    (reply_in c.noted_step_of.result.0) (map parts_of c.noted_step_of.new.books.items))
    c.self.view_is goes.noted

pub returns-in-Step-clause-notes : goal.returns-in-Step-clause-notes
returns-in-Step-clause-notes c =
    let g = beginning_in c.self.inside.roster c.self.inside.bases.items in
    let laws = laws_of c.books_are_ready.ensures.step c.journals_are_histories.ensures.noted
    c.what_leaves_books.ensures.copied in
    let goes = noting_goes laws g c.in-Step.member c.self.inside.books.items
    c.noted_step_of.new.books.items (event_in c.args.event) (step_in c.in-Step.step) c.noted_step_of.result.0
    c.noted_step_of.result.1 c.self.invariant.roster c.self.invariant.ready c.route.ensures.is_event
    c.in-Step.ensures.goes c.noted_step_of.ensures in
    goes.say

pub returns-in-Step-clause-stays : goal.returns-in-Step-clause-stays
returns-in-Step-clause-stays c refused =
    ap (λ (bs : List Book). record {
      roster = c.self.inside.roster;
      bases = bases_in c.self.inside.bases.items;
      books = bs;
    })
    (all_stay_noted c.self.inside.roster c.in-Step.member.node c.self.inside.books.items
    c.noted_step_of.new.books.items (step_in c.in-Step.step) c.noted_step_of.result.0 c.noted_step_of.result.1
    c.noted_step_of.ensures refused)
    ∙ c.self.view_is
