-- Refusals with the same number are the same, and so are challenges that say the same.
-- Serves: is_same of replies.
use Rattle.std.proofs.Common.{◌≡◌, List, [], ◌∷◌, map, refl, sym, ap, ap₂, ◌∙◌}
use Rattle.witness_spec.specs.Refusals.{Refusal}
use Rattle.witness_spec.specs.Refusals.{refusal_number}
use Rattle.challenge.specs.declared.challenge.Challenge.{Challenge}
use Rattle.challenge.specs.declared.challenge.Challenge.TheVariants as challenges
use Rattle.node_book.specs.Replies.{challenge_in}
use Rattle.node_book.specs.NoteCodes.{refusal_at, refusal_back}

-- refusals with the same number are the same
pub refusal_of_number : (f g : Refusal) → refusal_number f ≡ refusal_number g → f ≡ g
refusal_of_number f g h = sym (refusal_back f) ∙ ap refusal_at h ∙ refusal_back g

-- challenges that say the same are the same
challenge_same : (c d : Challenge) → challenge_in c ≡ challenge_in d → c ≡ d
challenge_same (challenges.Audit first last) (challenges.Audit from to) h = cc
challenge_same (challenges.Audit first last) (challenges.Send e) h = cc
challenge_same (challenges.Send e) (challenges.Audit first last) h = cc
challenge_same (challenges.Send e) (challenges.Send f) h = cc

-- lists of challenges that say the same are the same
pub challenges_same : (cs ds : List Challenge) → map challenge_in cs ≡ map challenge_in ds → cs ≡ ds
challenges_same [] [] h = refl
challenges_same [] (d ∷ ds) h = cc
challenges_same (c ∷ cs) [] h = cc
challenges_same (c ∷ cs) (d ∷ ds) h =
    let heads : challenge_in c ≡ challenge_in d = cc in
    let tails : map challenge_in cs ≡ map challenge_in ds = cc in
    ap₂ (λ (x : Challenge) (xs : List Challenge). x ∷ xs) (challenge_same c d heads)
    (challenges_same cs ds tails)
