use Rattle.std.proofs.Common.{◌≡◌, subst}
use Rattle.scripts.specs.Bases.{GivesGood, IsWithout}
use Rattle.scripts.proofs.GivenBases.{of_none, of_some}
use Rattle.scripts.proofs.bases.base_in.Goals as goal

-- the base that the node gives
pub returns-in-Some-2-clause-given : goal.returns-in-Some-2-clause-given
returns-in-Some-2-clause-given c =
    let b = c.in-Some-2.base in
    let same : c.from.result ≡ c.args.place.number = cc c.from.ensures in
    record {
      node = c.in-Some.node.now;
      there = c.in-Some.ensures;
      base = subst (λ n. GivesGood c.args.roster.now c.in-Some.node.now n b.value b.member) same
          (of_some _ _ _ c.in-Some-2.is c.in_ok-base-in-Some.ensures.given);
    }

-- it gives none
pub returns-in-None-2-clause-none : goal.returns-in-None-2-clause-none
returns-in-None-2-clause-none c =
    let same : c.from.result ≡ c.args.place.number = cc c.from.ensures in
    record {
      node = c.in-Some.node.now;
      there = c.in-Some.ensures;
      none = subst (λ n. IsWithout c.in-Some.node.now n) same
          (of_none _ c.in-None-2.is c.in_ok-base-in-Some.ensures.none);
    }
