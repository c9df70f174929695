-- A JSON object is closed after what is shown.
-- Serves: json.
use Rattle.std.proofs.Common.{◌≡◌, ◌∙◌, ℕ, List, [], ◌∷◌, ◌++◌, ap, append_assoc, rules, subst, zero, suc}
use Rattle.std.specs.Prelude.{IsTrue}
use Rattle.std.proofs.lemmas.List.Elements.{All-append}
use Rattle.explain.specs.Shown.{IsShown, is_shown}

-- a brace, and the end of the line
abbrev pub closing : List ℕ
closing = 125 ∷ 10 ∷ []

closing_is_shown : IsShown closing
closing_is_shown zero d below = search rules
closing_is_shown (suc zero) d below = search rules
closing_is_shown (suc (suc k)) d below = search rules

-- what is shown stays so with the closing after it
pub closed_is_shown : (bytes more : List ℕ) → bytes ≡ more → IsShown bytes → IsShown (more ++ closing)
closed_is_shown bytes more is shown =
    All-append (λ byte. IsTrue (is_shown byte)) more closing (subst IsShown is shown) closing_is_shown

-- parts that are appended one after the other
pub five_parts : (one two three four five a b c d e : List ℕ) → a ≡ one → b ≡ a ++ two → c ≡ b ++ three
    → d ≡ c ++ four → e ≡ d ++ five
    → e ≡ one ++ (two ++ (three ++ (four ++ five)))
five_parts one two three four five a b c d e is_a is_b is_c is_d is_e =
    is_e
    ∙ ap (λ t. t ++ five) (is_d ∙ ap (λ t. t ++ four) (is_c
    ∙ ap (λ t. t ++ three) (is_b ∙ ap (λ t. t ++ two) is_a)))
    ∙ simp append_assoc
