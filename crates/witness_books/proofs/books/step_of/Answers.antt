use Rattle.std.proofs.Common.{rules}
use Rattle.node_book.specs.Events.{step_in}
use Rattle.node_book.specs.Replies.{reply_in}
use Rattle.node_book.specs.Stepping.{Steps}
use Rattle.witness_books.proofs.Places.{is_found, is_here, here_ready, here_of_log, here_does}
use Rattle.witness_books.proofs.books.step_of.Goals as goal

pub unwrap-place-requires : goal.unwrap-place-requires
unwrap-place-requires c =
    is_found c.args.roster.now c.members.result.now c.args.member.now c.place_of.result c.requires.member
    c.members.ensures c.place_of.ensures

pub index_mut-requires : goal.index_mut-requires
index_mut-requires c =
    let here = is_here c.args.roster.now c.members.result.now c.args.member.now.node c.args.books.now.items
    (step_in c.args.step) c.place_of.result c.unwrap-place.result c.requires.can c.members.ensures
    c.place_of.ensures c.unwrap-place.ensures in
    let inside = here.inside in
    search (rules, inside)

pub step-requires-clause-ready : goal.step-requires-clause-ready
step-requires-clause-ready c =
    here_ready c.args.roster.now c.args.member.now.node c.args.books.now.items (step_in c.args.step)
    c.unwrap-place.result c.index_mut.result.now c.requires.can
    (is_here c.args.roster.now c.members.result.now c.args.member.now.node c.args.books.now.items
    (step_in c.args.step) c.place_of.result c.unwrap-place.result c.requires.can c.members.ensures
    c.place_of.ensures c.unwrap-place.ensures)
    c.index_mut.ensures.value

pub step-requires-clause-of_log : goal.step-requires-clause-of_log
step-requires-clause-of_log c =
    here_of_log c.args.roster.now c.args.member.now.node c.args.books.now.items (step_in c.args.step)
    c.unwrap-place.result c.index_mut.result.now c.requires.can
    (is_here c.args.roster.now c.members.result.now c.args.member.now.node c.args.books.now.items
    (step_in c.args.step) c.place_of.result c.unwrap-place.result c.requires.can c.members.ensures
    c.place_of.ensures c.unwrap-place.ensures)
    c.index_mut.ensures.value

-- the book at the place that was found makes the member's step; the others stay
pub returns : goal.returns
returns c =
    here_does c.args.roster.now c.args.member.now.node c.args.books.now.items c.unwrap-place.result
    c.index_mut.result.now c.step.new.self
    (λ old new. Steps old (step_in c.args.step) (reply_in c.step.result) new)
    (is_here c.args.roster.now c.members.result.now c.args.member.now.node c.args.books.now.items
    (step_in c.args.step) c.place_of.result c.unwrap-place.result c.requires.can c.members.ensures
    c.place_of.ensures c.unwrap-place.ensures)
    c.index_mut.ensures.value c.step.ensures
