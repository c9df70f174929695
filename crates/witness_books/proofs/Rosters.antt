-- Rosters that are one in every word are the same.
-- Serves: is_same_roster.
use Rattle.std.proofs.Common.{◌≡◌, ◌↔◌, Bool, true, false, IsTrue, List, refl, sym, ap, ◌∙◌}
use Rattle.std.proofs.lemmas.Bool.{true≢false}
use Rattle.authenticator.specs.declared.member.Member.{Member}
use Rattle.authenticator.proofs.Signed.{is_false}
use Rattle.node_book.specs.witness_spec.Whose.{same_roster}
use Rattle.node_book.proofs.witness_laws.Checked.{roster_is}
use Rattle.node_book.proofs.witness_laws.OfAnswers.Answering.{roster_self}

-- What is true exactly where two rosters are equal is the test of them.
pub test_of_rosters : (b : Bool) (xs ys : List Member) → IsTrue b ↔ (xs ≡ ys) → b ≡ same_roster xs ys
test_of_rosters true xs ys h = sym (ap (same_roster xs) (sym (h.0 refl)) ∙ roster_self xs)
test_of_rosters false xs ys h =
    sym (is_false (same_roster xs ys) (λ e. true≢false (sym (h.1 (roster_is xs ys e)))))
