use Rattle.std.proofs.Common.{refl, rules}
use Rattle.std.specs.List.{IsDistinct}
use Rattle.witness_examples.specs.Signed.Audited.{client}
use Rattle.witness_examples.proofs.OfSigned.Basing.{known}
use Rattle.witness_examples.proofs.signed.bases.bases_are_possible.Goals as goal

pub returns-clause-beginning : goal.returns-clause-beginning
unfolding IsDistinct
returns-clause-beginning c = λ secret. record {
  known = (record { member = client secret; known = known secret }, tt);
  apart = search rules;
}

pub returns-clause-member : goal.returns-clause-member
returns-clause-member c = λ secret. record { is_member = refl; base = known secret }
