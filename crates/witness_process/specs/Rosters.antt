-- Which of the rosters that a witness knows a server goes by, and when that is of a later epoch than its own.
use Rattle.std.specs.Prelude.{◌≡◌, ◌&&◌, ℕ, List, Option, Some, None, find, nat_lt}
use Rattle.std.specs.Option.{option_map_or}
use Rattle.std.specs.Str.{bytes_eq}
use Rattle.peer_calls.specs.Answers.{greeted_at}
use Rattle.peer_calls.specs.declared.answers.Greeted.{Greeted}
use Rattle.peer_calls.specs.declared.answers.Greeted.TheVariants.{Same, Other}
use Rattle.witness_process.specs.declared.elsewhere.OtherRoster.{OtherRoster}
use Rattle.witness_process.specs.declared.orders.Ending.{Ending}
use Rattle.witness_process.specs.declared.orders.Ending.TheVariants.{EpochBegun, NoMemory, Stopped}
use Rattle.witness_process.specs.declared.orders.KnownRoster.{KnownRoster}

-- ---- what a server greets with

-- The results of a GREET told another roster's digest.
abbrev pub HasTold : (digest : List ℕ) → Type 0
HasTold digest = (results : List ℕ) × (greeted_at results ≡ Some (Other digest))

-- the digest of the roster by which a server goes that was asked with a digest: that one, or the one that it told
abbrev pub digest_of : (asked : List ℕ) → Greeted → List ℕ
digest_of asked Same = asked
digest_of asked (Other digest) = digest

-- A server that was asked with a digest goes by the roster with this digest, by the results of its GREET.
pub record HasGreeted (digest : List ℕ) : Type 0 where
  pub asked : List ℕ
  pub results : List ℕ
  pub greeted : Greeted
  pub read : greeted_at results ≡ Some greeted
  pub is : digest ≡ digest_of asked greeted

-- ---- the rosters that a witness knows

-- the first one with this digest
abbrev pub roster_with : List KnownRoster → (digest : List ℕ) → Option KnownRoster
roster_with known digest = find (λ r. bytes_eq r.digest digest) known

-- the first one with this digest that is of a later epoch than another
abbrev pub later_with : List KnownRoster → (own : ℕ) → (digest : List ℕ) → Option KnownRoster
later_with known own digest = find (λ r. bytes_eq r.digest digest && nat_lt own r.epoch) known

-- A witness begins with the first one that a server goes by.
pub record IsChosen (known : List KnownRoster) (chosen : KnownRoster) : Type 0 where
  pub digest : List ℕ
  pub greeted : HasGreeted digest
  pub is : roster_with known digest ≡ Some chosen

-- ---- why a witness ends

-- A server told the digest of a roster that the witness knows: it is of this epoch, which is later than its own.
pub record IsBegunEpoch (known : List KnownRoster) (own epoch : ℕ) : Type 0 where
  pub digest : List ℕ
  pub told : HasTold digest
  pub roster : KnownRoster
  pub later : later_with known own digest ≡ Some roster
  pub is : epoch ≡ roster.epoch

-- It ended for this: for an epoch that was begun only where a server told that.
abbrev pub IsEnding : List KnownRoster → (own : ℕ) → Ending → Type 0
IsEnding known own (EpochBegun node epoch) = IsBegunEpoch known own epoch
IsEnding known own Stopped = Unit {0}
IsEnding known own NoMemory = Unit {0}

-- Why one ends that serves no longer: for a later epoch that a server told, if one did.
abbrev pub ending_after : List KnownRoster → (own : ℕ) → Option OtherRoster → Ending
ending_after known own None = Stopped
ending_after known own (Some other) =
    option_map_or (λ r. EpochBegun other.node r.epoch) (later_with known own other.digest) Stopped
