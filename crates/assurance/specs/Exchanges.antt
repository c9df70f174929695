-- What a witness is asked about a server's replies, and what it answers.
use Rattle.std.specs.Prelude.{◌≡◌, ℕ, Bool, List, ◌∷◌, Option, Some, None}
use Rattle.authenticator.specs.declared.authenticator.Authenticator.{Authenticator}

-- It greets with the roster of who asks; it is shown what a node signed, and answers with a number; it is asked what it
-- says of a node, and answers: whether it calls it exposed, and the last number up to which it filed its log Sound.
pub data Exchange : Type 0 where
  Greeted : Exchange
  Shown : (signed : Authenticator) → (answer : ℕ) → Exchange
  Asked : (node : ℕ) → (exposed : Bool) → (end : ℕ) → Exchange

-- One more comes in front, where it is known which there were.
abbrev pub Adds : {A : Type 0} → (old : Option (List A)) → A → (new : Option (List A)) → Type 0
Adds None a new = new ≡ None
Adds (Some xs) a new = new ≡ Some (a ∷ xs)

-- What is handed over to be kept: what a node signed, with the number by which it is to be found.
pub record Kept : Type 0 where
  pub number : ℕ
  pub signed : Authenticator
