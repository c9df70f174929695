use Rattle.std.proofs.Common.{refl, ◌∙◌}
use Rattle.watching.proofs.OfEnding.{as_many}
use Rattle.watching.proofs.audited.AuditedBooks.end.Goals as goal

pub end_of-requires : goal.end_of-requires
end_of-requires c =
    as_many c.self.inside.books c.self.inside.books _ _ _ c.self.invariant.0 c.stand.ensures.stand
    c.deref.ensures.value
    (c.members.ensures ∙ c.roster.ensures) refl
