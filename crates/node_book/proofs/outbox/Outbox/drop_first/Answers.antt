use Rattle.std.proofs.Common.{arith}
use Rattle.std.proofs.lemmas.Grind.{common_steps}
use Rattle.node_book.specs.Shares.{items_of}
use Rattle.node_book.proofs.Taken.{drop_more, spent}
use Rattle.node_book.proofs.outbox.Outbox.drop_first.Goals as goal

-- the first share is used up
pub returns-then-self-count : goal.returns-then-self-count
returns-then-self-count c =
    spent items_of c.args.self.now.shares.items c.pop_front-share.new.self.items c.args.self.now.taken
    c.in-Some.share.now (grind (arith, common_steps)) (grind (arith, common_steps))
    c.pop_front-share.ensures.rest (grind (arith, common_steps))

-- one more of the first share was taken
pub returns-else-self-count : goal.returns-else-self-count
returns-else-self-count c = drop_more c.args.self.now.taken _
