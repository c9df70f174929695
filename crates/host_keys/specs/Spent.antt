-- What was begun with a secret so far, the text that says so, and what may be begun next.
use Rattle.std.specs.Prelude.{◌≡◌, ◌==◌, ◌≤◌, ◌<◌, ◌+◌, ◌-◌, ◌^◌, ⊤, ◌++◌, ℕ, Bool, true, false, not, ◌&&◌}
use Rattle.std.specs.Prelude.{nat_lt, max, List, [], ◌∷◌, Option}
use Rattle.std.specs.Prelude.{Some, None, if◌then◌else◌}
use Rattle.std.specs.Str.{bytes_eq}
use Rattle.std.specs.List.{AllByRecursion, Contains, flat_map, list_all, list_any, slice_split}
use Rattle.host_keys.specs.Beginnings.{IsBegun, ShareNoKey, begun_text, may_follow, number_begun}
use Rattle.host_keys.specs.declared.begun.Begun.{Begun}
use Rattle.host_keys.specs.declared.begun.Begun.TheVariants.{Node, Run}
use Rattle.host_keys.specs.declared.choice.EpochRoster.{EpochRoster}
use Rattle.host_keys.specs.declared.choice.LifeFault.{LifeFault}
use Rattle.host_keys.specs.declared.choice.LifeFault.TheVariants.{Over, TakenByRun, OtherRoster, NoneLeft}

-- ---- the text

-- a line, with its line feed (10)
abbrev pub line_begun : Begun → List ℕ
line_begun b = begun_text b ++ (10 ∷ [])

-- the text: a line for each that was begun, oldest first
abbrev pub spent_text : List Begun → List ℕ
spent_text bs = flat_map line_begun bs

-- the lines of a text, between its line feeds
abbrev pub lines_of : List ℕ → List (List ℕ)
lines_of text = slice_split (λ b. b == 10) text

-- ---- the order

-- each was begun after those before it
abbrev pub follow : List Begun → Bool
follow [] = true
follow (b ∷ bs) = list_all (λ later. may_follow b later) bs && follow bs

-- what may have been begun with a secret
pub record AreSpent (bs : List Begun) : Type 0 where
  pub each : AllByRecursion IsBegun bs
  pub in_order : follow bs ≡ true

-- no key is used by two of them
abbrev pub UseNoKeyTwice : List Begun → Type 0
UseNoKeyTwice [] = ⊤
UseNoKeyTwice (b ∷ bs) = AllByRecursion (ShareNoKey b) bs × UseNoKeyTwice bs

-- ---- what may be begun next

-- after all that were begun
pub record MayBegin (bs : List Begun) (b : Begun) : Type 0 where
  pub is : IsBegun b
  pub after : list_all (λ a. may_follow a b) bs ≡ true

-- it uses no key that one of them uses
abbrev pub IsFresh : List Begun → Begun → Type 0
IsFresh bs b = AllByRecursion (λ a. ShareNoKey a b) bs

-- the greatest number of those that were begun; 0 where none was
abbrev pub greatest : List Begun → ℕ
greatest [] = 0
greatest (b ∷ bs) = max (number_begun b) (greatest bs)

-- the run after all of them
abbrev pub run_after : List Begun → Option Begun
run_after bs = if nat_lt (greatest bs) (2 ^ 32 - 1) then Some (Run (greatest bs + 1)) else None

-- a roster's epoch is after a number, and before that of another one, if there is one
abbrev pub is_nearer : ℕ → EpochRoster → Option EpochRoster → Bool
is_nearer n r None = nat_lt n r.epoch
is_nearer n r (Some other) = nat_lt n r.epoch && nat_lt r.epoch other.epoch

-- the nearest of rosters and another one
abbrev pub least_from : ℕ → Option EpochRoster → List EpochRoster → Option EpochRoster
least_from n best [] = best
least_from n best (r ∷ rs) = least_from n (if is_nearer n r best then Some r else best) rs

-- A server begins the least of the epochs after all of them for which there is a roster.
pub record IsNextEpoch (bs : List Begun) (node : ℕ) (rosters : List EpochRoster) (b : Begun) : Type 0 where
  pub roster : EpochRoster
  pub is : b ≡ Node roster.epoch node roster.digest
  pub known : Contains rosters roster
  pub after : greatest bs < roster.epoch
  pub least : AllByRecursion (λ r. greatest bs < r.epoch → roster.epoch ≤ r.epoch) rosters

-- why nothing is begun in an epoch after a run: none where its number is less
abbrev pub fault_after_run : (epoch run : ℕ) → Option LifeFault
fault_after_run epoch run =
    if nat_lt epoch run then Some Over else if epoch == run then Some TakenByRun else None

-- the same after a node in an epoch, under a roster: none where the epoch is less, or is this one with this
-- roster
abbrev pub fault_after_node : EpochRoster → (epoch : ℕ) → (digest : List ℕ) → Option LifeFault
fault_after_node r epoch digest =
    if nat_lt r.epoch epoch then Some Over
    else if (r.epoch == epoch) && not (bytes_eq digest r.digest) then Some OtherRoster
    else None

-- the same after one that was begun
abbrev pub fault_after : EpochRoster → Begun → Option LifeFault
fault_after r (Run run) = fault_after_run r.epoch run
fault_after r (Node epoch node digest) = fault_after_node r epoch digest

-- the first of two faults
abbrev pub first_of : Option LifeFault → Option LifeFault → Option LifeFault
first_of (Some fault) later = Some fault
first_of None later = later

-- the first such fault
abbrev pub first_fault : EpochRoster → List Begun → Option LifeFault
first_fault r [] = None
first_fault r (b ∷ bs) = first_of (fault_after r b) (first_fault r bs)

-- a node was begun in an epoch
abbrev pub is_begun : (epoch node : ℕ) → Begun → Bool
is_begun epoch node (Run run) = false
is_begun epoch node (Node epoch' node' roster) = (epoch' == epoch) && (node' == node)

-- one of them is that node
abbrev pub has_begun : List Begun → (epoch node : ℕ) → Bool
has_begun bs epoch node = list_any (is_begun epoch node) bs

-- A gateway begins the first of its numbers that wasn't begun in the epoch, unless nothing is begun there
-- any more.
pub record IsNextLife (bs : List Begun) (first last : ℕ) (r : EpochRoster) (b : Begun) : Type 0 where
  pub node : ℕ
  pub is : b ≡ Node r.epoch node r.digest
  pub within : (first ≤ node) × (node ≤ last)
  pub least : (n : ℕ) → first ≤ n → n < node → has_begun bs r.epoch n ≡ true

-- why it begins none
abbrev pub RefusesLife : List Begun → (first last : ℕ) → EpochRoster → LifeFault → Type 0
RefusesLife bs first last r NoneLeft =
    (first_fault r bs ≡ None) × ((n : ℕ) → first ≤ n → n ≤ last → has_begun bs r.epoch n ≡ true)
RefusesLife bs first last r fault = first_fault r bs ≡ Some fault
