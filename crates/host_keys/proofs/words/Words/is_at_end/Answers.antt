use Rattle.std.proofs.Common.{◌≡◌, ◌↔◌, List, ℕ, [], Bool, true, false, not, Option, Some, None, IsTrue}
use Rattle.std.proofs.Common.{is_some, option_map, sym, rules}
use Rattle.host_keys.specs.Lines.{words_left}
use Rattle.host_keys.proofs.Lines.{none_left}
use Rattle.host_keys.proofs.words.Words.is_at_end.Goals as goal

true_false : true ≡ false → ⊥
true_false e = cc

some_none : {X : Type 0} {x : X} → Some x ≡ None → ⊥
some_none e = cc

-- a test for no word that is left
tests_end : {X : Type 0} (now : X → List ℕ) (rest : Option X) (r : Bool) → is_some rest ≡ not r
    → IsTrue r ↔ (words_left (option_map now rest) ≡ [])
tests_end now None true e = search rules
tests_end now None false e = absurd (true_false (sym e))
tests_end now (Some x) false e = (
  λ t. absurd (search rules),
  λ h. absurd (some_none (none_left (Some
      (now x)) h)),
)
tests_end now (Some x) true e = absurd (true_false e)

pub returns : goal.returns
returns c = tests_end (λ s. s.now) c.args.self.now.rest c.is_none.result c.is_none.ensures
