use Rattle.std.proofs.Common.{refl}
use Rattle.watching.proofs.OfAsking.{asked_nothing}
use Rattle.watching.proofs.audited.AuditedBooks.wanted.Goals as goal

pub returns-then-is_none-clause-asked : goal.returns-then-is_none-clause-asked
returns-then-is_none-clause-asked c = asked_nothing c.args.self.now c.args.self.now _ refl
