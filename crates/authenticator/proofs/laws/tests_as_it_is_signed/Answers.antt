use Rattle.authenticator.proofs.Signed.{signed_of, of_signed, signed_in_of, of_signed_in}
use Rattle.authenticator.proofs.laws.tests_as_it_is_signed.Goals as goal

pub returns-clause-by_root : goal.returns-clause-by_root
returns-clause-by_root c = λ root height digest signature.
    (signed_of root height digest signature, of_signed root height digest signature)

pub returns-clause-in_roster : goal.returns-clause-in_roster
returns-clause-in_roster c = λ ms a. (signed_in_of ms a, of_signed_in ms a)
