use Rattle.std.proofs.Common.{arith, rules}
use Rattle.witness_process.proofs.OfAnswers.{by_own}
use Rattle.witness_process.proofs.sets.BookSets.answer.Goals as goal

pub index_mut-requires : goal.index_mut-requires
index_mut-requires c = omega (arith, c.in-Some.ensures.found.1.inside, c.deref.ensures.len)

pub returns-in-Some : goal.returns-in-Some
returns-in-Some c =
    by_own _ _ _ c.node_in.result c.in-Some.ensures.found.0 c.in-Some.place c.index_mut.result.now c.answer.new.self _ _ _
    _ (search rules) (c.node_in.ensures c.args.self.now.shared.books.roster)
    (rw c.deref.ensures.value at c.in-Some.ensures.found.1) c.index_mut.ensures.value (search rules) (search rules)
    c.answer.ensures
