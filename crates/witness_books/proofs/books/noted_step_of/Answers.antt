use Rattle.std.proofs.Common.{rules}
use Rattle.node_book.specs.Events.{step_in}
use Rattle.node_book.specs.Stepping.{NotedSteps}
use Rattle.witness_books.proofs.Places.{is_found, is_here, here_ready, here_of_log, here_does}
use Rattle.witness_books.proofs.books.noted_step_of.Goals as goal

pub unwrap-place-requires : goal.unwrap-place-requires
unwrap-place-requires c =
    is_found c.args.roster.now c.members.result.now c.args.member.now c.place_of.result c.requires.member
    c.members.ensures c.place_of.ensures

pub index_mut-requires : goal.index_mut-requires
index_mut-requires c =
    let here = is_here c.args.roster.now c.members.result.now c.args.member.now.node c.args.books.now.items
    (step_in c.args.step) c.place_of.result c.unwrap-place.result c.requires.can c.members.ensures
    c.place_of.ensures c.unwrap-place.ensures in
    let inside = here.inside in
    search (rules, inside)

pub noted_step-requires-clause-ready : goal.noted_step-requires-clause-ready
noted_step-requires-clause-ready c =
    here_ready c.args.roster.now c.args.member.now.node c.args.books.now.items (step_in c.args.step)
    c.unwrap-place.result c.index_mut.result.now c.requires.can
    (is_here c.args.roster.now c.members.result.now c.args.member.now.node c.args.books.now.items
    (step_in c.args.step) c.place_of.result c.unwrap-place.result c.requires.can c.members.ensures
    c.place_of.ensures c.unwrap-place.ensures)
    c.index_mut.ensures.value

pub noted_step-requires-clause-of_log : goal.noted_step-requires-clause-of_log
noted_step-requires-clause-of_log c =
    here_of_log c.args.roster.now c.args.member.now.node c.args.books.now.items (step_in c.args.step)
    c.unwrap-place.result c.index_mut.result.now c.requires.can
    (is_here c.args.roster.now c.members.result.now c.args.member.now.node c.args.books.now.items
    (step_in c.args.step) c.place_of.result c.unwrap-place.result c.requires.can c.members.ensures
    c.place_of.ensures c.unwrap-place.ensures)
    c.index_mut.ensures.value

-- the book at the place that was found makes the member's step, with its notes; the others stay
pub returns : goal.returns
returns c =
    here_does c.args.roster.now c.args.member.now.node c.args.books.now.items c.unwrap-place.result
    c.index_mut.result.now c.noted_step.new.self
    (λ old new. NotedSteps old (step_in c.args.step) c.noted_step.result.0 c.noted_step.result.1 new)
    (is_here c.args.roster.now c.members.result.now c.args.member.now.node c.args.books.now.items
    (step_in c.args.step) c.place_of.result c.unwrap-place.result c.requires.can c.members.ensures
    c.place_of.ensures c.unwrap-place.ensures)
    c.index_mut.ensures.value c.noted_step.ensures
