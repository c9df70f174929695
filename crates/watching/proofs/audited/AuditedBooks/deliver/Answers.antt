use Rattle.std.proofs.Common.{arith}
use Rattle.watching.proofs.OfDelivering.{delivered_is, delivered_may, refused_is, spelled_steps}
use Rattle.watching.proofs.audited.AuditedBooks.deliver.Goals as goal

pub returns-in-Ok-clause-taken : goal.returns-in-Ok-clause-taken
returns-in-Ok-clause-taken c =
    delivered_is c.of.result c.args.self.now c.step.new.self c.args.packet.now _
    (spelled_steps c.args.self.now c.step.new.self c.args.packet.now _ _ c.spelled_is_taken.ensures.taken
    (λ i. omega (arith, c.type_inv.packet i))
    (rw (c.roster.ensures, c.books.ensures) at c.in-Ok.ensures.event) c.step.ensures.steps)
    c.of.ensures.taken c.of.ensures.enough

pub returns-in-Ok-clause-refused : goal.returns-in-Ok-clause-refused
returns-in-Ok-clause-refused c =
    delivered_may c.of.result c.args.self.now c.step.new.self c.args.packet.now _
    (spelled_steps c.args.self.now c.step.new.self c.args.packet.now _ _ c.spelled_is_taken.ensures.taken
    (λ i. omega (arith, c.type_inv.packet i))
    (rw (c.roster.ensures, c.books.ensures) at c.in-Ok.ensures.event) c.step.ensures.steps)

pub returns-in-Err-clause-taken : goal.returns-in-Err-clause-taken
returns-in-Err-clause-taken c =
    refused_is c.of-in-Err.result c.args.self.now c.args.packet.now _ c.what_leaves_books.ensures.out
    (λ i. omega (arith, c.type_inv.packet i))
    (rw (c.roster.ensures, c.books.ensures) at c.in-Err.ensures.event) c.of-in-Err.ensures.taken
    c.of-in-Err.ensures.enough
