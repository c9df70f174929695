-- When challenges were opened.
use Rattle.std.specs.Prelude.{◌≡◌, ◌⊎◌, ◌==◌, if◌then◌else◌, ℕ, List, [], ◌∷◌, Option, Some, None}
use Rattle.envelopes.specs.Envelope.{envelope_message}
use Rattle.challenge.specs.declared.challenge.Challenge.{Challenge}
use Rattle.challenge.specs.declared.challenge.Challenge.TheVariants as challenges
use Rattle.witness_process.specs.declared.opened.OpenChallenge.{OpenChallenge}
use Rattle.witness_process.specs.declared.opened.Wanted.{Wanted}
use Rattle.witness_process.specs.declared.opened.Wanted.TheVariants as wanted
use Rattle.watching.specs.declared.results.Opened.{Opened}

-- the time of a node put in place of the one before; those of others stay
abbrev pub opened_one : (node at : ℕ) → Opened → Opened
opened_one node at o = if o.node == node then record { node = o.node; at = at } else o

-- Since when a challenge is open that asks for this: since the time of the first one before that asks for the same, else
-- since this time.
abbrev pub IsSince : Wanted → List OpenChallenge → (time since : ℕ) → Type 0
IsSince wanted [] time since = since ≡ time
IsSince wanted (one ∷ others) time since =
    ((one.wanted ≡ wanted) × (since ≡ one.since)) ⊎ ((one.wanted ≡ wanted → ⊥) × IsSince wanted others time since)

-- what a challenge asks for
abbrev pub wanted_of : Challenge → Wanted
wanted_of (challenges.Audit first last) = wanted.Segment first last
wanted_of (challenges.Send envelope) = wanted.Message (envelope_message envelope)

-- What is listed of a challenge: what it asks for, and since when it is open.
pub record IsListed (before : List OpenChallenge) (time : ℕ) (challenge : Challenge) (one : OpenChallenge) : Type 0 where
  pub wanted : one.wanted ≡ wanted_of challenge
  pub since : IsSince one.wanted before time one.since

-- the oldest of the challenges that are open, if one is: they stand in the order in which they came
abbrev pub oldest_in : List OpenChallenge → Option OpenChallenge
oldest_in [] = None
oldest_in (one ∷ others) = Some one
