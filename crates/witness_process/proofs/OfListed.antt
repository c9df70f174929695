-- One more challenge is listed.
-- Serves: open_after.
use Rattle.std.proofs.Common.{◌≡◌, ℕ, suc, ◌+◌, ◌<◌, List, [], ◌∷◌, ◌++◌, take, length, get_or, subst, sym, add-one}
use Rattle.std.proofs.Math.Seq.{take-suc}
use Rattle.std.specs.List.{AllZip}
use Rattle.witness_process.specs.Opened.{IsListed}
use Rattle.challenge.specs.declared.challenge.Challenge.{Challenge}
use Rattle.witness_process.specs.declared.opened.OpenChallenge.{OpenChallenge}

one_more : (before : List OpenChallenge) (time : ℕ) (cs : List Challenge) (os : List OpenChallenge) (c : Challenge)
    (o : OpenChallenge) → AllZip (IsListed before time) cs os → IsListed before time c o
    → AllZip (IsListed before time) (cs ++ c ∷ []) (os ++ o ∷ [])
one_more before time [] [] c o all one = (one, tt)
one_more before time [] (x ∷ os) c o all one = absurd all
one_more before time (x ∷ cs) [] c o all one = absurd all
one_more before time (x ∷ cs) (y ∷ os) c o all one = (all.0, one_more before time cs os c o all.1 one)

pub listed_more : (before : List OpenChallenge) (time : ℕ) (cs : List Challenge) (i : ℕ) (c : Challenge)
    (os new : List OpenChallenge) (o : OpenChallenge) → i < length cs → c ≡ get_or cs i c
    → IsListed before time c o → new ≡ os ++ o ∷ [] → AllZip (IsListed before time) (take i cs) os
    → AllZip (IsListed before time) (take (i + 1) cs) new
listed_more before time cs i c os new o lt item one more all =
    let is : take (i + 1) cs ≡ take i cs ++ c ∷ [] =
    rw add-one (subst (λ x. take (suc i) cs ≡ take i cs ++ x ∷ []) (sym item) (take-suc cs i c lt)) in
    rw (is, more) (one_more before time (take i cs) os c o all one)
