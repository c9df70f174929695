use Rattle.std.proofs.Common.{true≢false, sym, subst, ◌∙◌}
use Rattle.witness_books.specs.Starts.{AreApart}
use Rattle.witness_books.proofs.Starts.{bases_alone}
use Rattle.witness_books.proofs.start.check_start.Goals as goal

pub returns-then-not-are_apart-clause-fault : goal.returns-then-not-are_apart-clause-fault
returns-then-not-are_apart-clause-fault c apart =
    let alone = bases_alone (λ x. x.value) (λ x. x.member) c.args.bases.now in
    true≢false (sym (c.are_apart.ensures.1 (subst AreApart alone apart)) ∙ c.if-not-are_apart.true)

pub returns-then-not-branch-clause-fault : goal.returns-then-not-branch-clause-fault
returns-then-not-branch-clause-fault c =
    let alone = bases_alone (λ x. x.value) (λ x. x.member) c.args.bases.now in (
      subst AreApart (sym alone) (c.are_apart.ensures.0 c.if-not-are_apart.false),
      λ all. true≢false (sym (c.in_ok-are_of_roster.ensures.of.1 all) ∙ c.if-not-branch.true),
    )

pub returns-clause-ok : goal.returns-clause-ok
returns-clause-ok c =
    let alone = bases_alone (λ x. x.value) (λ x. x.member) c.args.bases.now in
    record {
      apart = subst AreApart (sym alone) (c.are_apart.ensures.0 c.if-not-are_apart.false);
      of_roster = c.in_ok-are_of_roster.ensures.of.0 c.if-not-branch.false;
    }
