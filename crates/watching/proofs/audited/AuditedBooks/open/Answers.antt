use Rattle.std.proofs.Common.{sym, ap, length, replicate, List, ◌∙◌}
use Rattle.authenticator.specs.declared.member.Member.{Member}
use Rattle.watching.specs.Ends.{ends_of}
use Rattle.watching.proofs.OfOpening.{opening_ends}
use Rattle.watching.proofs.audited.AuditedBooks.open.Goals as goal

pub invariant_of-result : goal.invariant_of-result
invariant_of-result c = (
  c.in-Ok.ensures
      ∙ (ap (λ (ms : List Member). replicate (length ms) 0) c.members.ensures
      ∙ (opening_ends c.args.roster ∙ sym (ap ends_of c.in_ok-books.ensures.opening))),
  tt,
)
