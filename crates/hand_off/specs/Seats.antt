-- What the poster's seat and a worker's seat know of the slots of a hand-off.
use Rattle.std.specs.Prelude.{◌≡◌, ℕ, ◌+◌, List, map, set, slice_index_or, Option, None}
pub use Rattle.atomic_table.specs.Seated.{TableId}
pub use Rattle.witness_spec.specs.Events.{JobParts}

-- How many workers a slot was opened for, and how many of them are retired.
pub record Count : Type 0 where
  -- how many there are in all
  pub made : ℕ
  -- how many of them are retired
  pub retired : ℕ

-- so many workers, of whom so many are retired
abbrev pub count : ℕ → ℕ → Count
count made retired = record { made = made; retired = retired }

-- all workers are retired
abbrev pub AreRetired : Count → Type 0
AreRetired c = c.retired ≡ c.made

-- What the poster's seat knows.
pub record Posting : Type 0 where
  -- its slots
  pub slots : List TableId
  -- of each the job that was posted there and hasn't been collected
  pub jobs : List (Option JobParts)
  -- the workers of each
  pub workers : List Count

-- What a worker's seat knows.
pub record Working : Type 0 where
  -- its slots
  pub slots : List TableId
  -- of each the job that the worker took there and hasn't given back
  pub jobs : List (Option JobParts)

-- the job that is named at a slot
abbrev pub job_at : List (Option JobParts) → ℕ → Option JobParts
job_at jobs slot = slice_index_or jobs slot None

-- no job is named at any slot
abbrev pub none_at : List TableId → List (Option JobParts)
none_at slots = map (λ _. None) slots

-- a poster that posted nothing, and this many workers, of whom none is retired
abbrev pub opened : List TableId → ℕ → Posting
opened slots workers = record {
  slots = slots;
  jobs = none_at slots;
  workers = map (λ _. count workers 0) slots;
}

-- a worker that holds no slot
abbrev pub idle_at : List TableId → Working
idle_at slots = record { slots = slots; jobs = none_at slots }

-- the poster names this job at a slot, or none
abbrev pub posting : Posting → ℕ → Option JobParts → Posting
posting p slot job = record { slots = p.slots; jobs = set p.jobs slot job; workers = p.workers }

-- the worker names this job at a slot, or none
abbrev pub working : Working → ℕ → Option JobParts → Working
working w slot job = record { slots = w.slots; jobs = set w.jobs slot job }

-- one worker more of a slot is retired
abbrev pub one_retired : Count → Count
one_retired c = count c.made (c.retired + 1)

-- one worker more is retired
abbrev pub retiring : Posting → Posting
retiring p = record { slots = p.slots; jobs = p.jobs; workers = map one_retired p.workers }
