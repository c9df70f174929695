-- What is given to make keys of, once something is begun with a secret.
use Rattle.std.specs.Prelude.{◌≡◌, ◌++◌, ◌∷◌, [], ℕ, List}
use Rattle.host_keys.specs.Beginnings.{number_begun}
use Rattle.host_keys.specs.declared.begun.Begun.{Begun}
use Rattle.node_keys.specs.declared.masters.Masters.{Masters}
use Rattle.node_keys.specs.declared.masters.Masters.TheVariants.{OfEpoch}

-- It stands at the end of what was begun with the secret bytes, and keys are made of these and of its number.
pub record Begins (bytes : List ℕ) (spent : List Begun) (b : Begun) (spent' : List Begun) (m : Masters) : Type 0 where
  pub noted : spent' ≡ spent ++ b ∷ []
  pub masters : m ≡ OfEpoch bytes (number_begun b)
