use Rattle.std.proofs.Common.{◌≡◌, suc, ◌∷◌, drop, ap₂, ◌∙◌, arith, append-nil}
use Rattle.std.proofs.lemmas.List.Sums.{sum_by-cons}
use Rattle.witness_spec.specs.Replies.{Forwarded}
use Rattle.witness_spec.specs.Steps.{Forward, Past}
use Rattle.witness_spec.specs.Standing.{all_found, forwards}
use Rattle.authenticator.specs.declared.authenticator.Authenticator.{Authenticator}
use Rattle.witness_examples.proofs.Computed.{drop_more}
use Rattle.witness_examples.proofs.rows.the_oldest_is_forwarded.Goals as goal

one_more : (past : Past) (a : Authenticator) → forwards ((Forward, Forwarded a) ∷ past) ≡ suc (forwards past)
one_more past a = omega (arith, sum_by-cons)

pub returns-clause-taken : goal.returns-clause-taken
returns-clause-taken c = λ w past a rest h.
    ap₂ drop (one_more past a) (append-nil (all_found w past))
    ∙ drop_more (forwards past) (all_found w past) a rest h
