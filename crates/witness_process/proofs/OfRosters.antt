-- What a server greets with, and for what a witness ends.
-- Serves: told_in, digest_in, ask, Elsewhere::ending.
use Rattle.std.proofs.Common.{◌≡◌, ℕ, List, Option, Some, None, refl}
use Rattle.std.specs.Prelude.{IfSome}
use Rattle.std.specs.Option.{option_map_or}
use Rattle.peer_calls.specs.Answers.{greeted_at}
use Rattle.peer_calls.specs.declared.answers.Greeted.{Greeted}
use Rattle.peer_calls.specs.declared.answers.Greeted.TheVariants.{Other}
use Rattle.witness_process.specs.Rosters.{HasGreeted, HasTold, IsChosen, IsEnding, digest_of, ending_after}
use Rattle.witness_process.specs.Rosters.{later_with, roster_with}
use Rattle.witness_process.specs.declared.elsewhere.OtherRoster.{OtherRoster}
use Rattle.witness_process.specs.declared.orders.Ending.TheVariants.{EpochBegun, Stopped}
use Rattle.witness_process.specs.declared.orders.KnownRoster.{KnownRoster}

-- results told a digest
pub has_told : (results digest : List ℕ) → greeted_at results ≡ Some (Other digest) → HasTold digest
has_told results digest read = (results, read)

-- a server goes by the roster that its results say
pub has_greeted : (asked results digest : List ℕ) (g : Greeted) → greeted_at results ≡ Some g
    → digest ≡ digest_of asked g → HasGreeted digest
has_greeted asked results digest g read is = record {
  asked = asked;
  results = results;
  greeted = g;
  read = read;
  is = is;
}

-- it begins with the roster that a server named
pub is_chosen : (known : List KnownRoster) (digest : List ℕ) (r : KnownRoster) → HasGreeted digest
    → roster_with known digest ≡ Some r → IsChosen known r
is_chosen known digest r greeted is = record { digest = digest; greeted = greeted; is = is }

-- it ends for what was told
pub is_ending : (known : List KnownRoster) (own : ℕ) (told : Option OtherRoster)
    → IfSome told (λ o. HasTold o.digest) → IsEnding known own (ending_after known own told)
is_ending known own None told = tt
is_ending known own (Some other) told = ends (later_with known own other.digest) refl
  where
    ends : (later : Option KnownRoster) → later_with known own other.digest ≡ later
        → IsEnding known own (option_map_or (λ r. EpochBegun other.node r.epoch) later Stopped)
    ends None is = tt
    ends (Some r) is = record { digest = other.digest; told = told; roster = r; later = is; is = refl }
