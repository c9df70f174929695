use Rattle.std.proofs.Common.{rules, true≢false, sym, ◌∙◌}
use Rattle.witness_books.specs.Starts.{IsOfRoster, handed}
use Rattle.witness_books.proofs.Starts.{holds_at}
use Rattle.witness_books.proofs.start.are_of_roster.Goals as goal

-- the one that isn't is among them
pub returns-then-not-branch-clause-of : goal.returns-then-not-branch-clause-of
returns-then-not-branch-clause-of c = (
  λ t. absurd (true≢false (sym t)),
  λ all. absurd (true≢false (sym (c.in_ok-is_of_roster.ensures.of.1
      (holds_at (IsOfRoster c.args.roster.now) (λ x. handed x.value x.member) c.args.bases.now
      c.loop-base.base-index c.base-item.result (search rules) c.base-item.is all)) ∙ c.if-not-branch.true)),
)
