-- What is left of a reader.
-- Serves: read_contents, read_front, check.
use Rattle.std.proofs.Common.{◌≡◌, ◌∙◌, ℕ, List, [], ◌++◌, Some, None, ap, subst, sym}
use Rattle.std.specs.Prelude.{Option, IfSome}
use Rattle.std.specs.Io.KnownBytes.{Consumes}

-- what holds of all that begins with what was taken holds of what a reader had
pub front_of : (a b : Option (List ℕ)) (taken view : List ℕ) (P : List ℕ → Type 0) → Consumes a b taken
    → view ≡ taken → ((more : List ℕ) → P (view ++ more)) → IfSome a P
front_of None b taken view P took is holds = tt
front_of (Some x) None taken view P took is holds = absurd took
front_of (Some x) (Some y) taken view P took is holds =
    subst P (ap (λ (t : List ℕ). t ++ y) is ∙ sym took) (holds y)

-- what follows of what a reader had, whatever it was
pub follows : (had : Option (List ℕ)) (P Q : List ℕ → Type 0) → ((input : List ℕ) → P input → Q input)
    → IfSome had P → IfSome had Q
follows None P Q gives holds = tt
follows (Some input) P Q gives holds = gives input holds
