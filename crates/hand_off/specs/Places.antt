-- What a seat at one slot knows, and what ties it to the rule of the slot.
use Rattle.std.specs.Prelude.{◌≡◌, ℕ, ◌+◌, List, [], ◌∷◌, Bool, true, false, map, Option, None, Some}
use Rattle.atomic_table.specs.Seated.{TableId}
use Rattle.witness_spec.specs.Events.{JobParts}
use Rattle.hand_off.specs.Seats.{Count, Posting, Working, count, one_retired}
use Rattle.hand_off.specs.Slots.{Seated, holds, idle, poster}
use Rattle.hand_off.specs.declared.slot.Slot.{Slot}
use Rattle.hand_off.specs.declared.view.View.{View}
use Rattle.hand_off.specs.declared.view.View.TheVariants.{Poster, Idle, Holds, Retired}
use Rattle.hand_off.specs.declared.view.Workers.{Workers}

-- which table a slot is
abbrev pub slot_id : Slot → TableId
slot_id s = s.table.shared.table_id

-- the tables of slots
abbrev pub slot_ids : List Slot → List TableId
slot_ids slots = map slot_id slots

-- ---- what a view names

-- the job that it names
abbrev pub job_named : View → Option JobParts
job_named (Poster job home c) = job
job_named (Idle w) = None
job_named (Holds w job) = Some job
job_named Retired = None

-- the workers that it counts
abbrev pub workers_counted : View → Count
workers_counted (Poster job home c) = count c.made c.retired
workers_counted (Idle w) = count 0 0
workers_counted (Holds w job) = count 0 0
workers_counted Retired = count 0 0

-- ---- the poster's seat at one slot

-- What it knows.
pub record PostedPlace : Type 0 where
  pub slot : TableId
  pub job : Option JobParts
  pub workers : Count

-- what the poster's seat knows, from what it knows at each slot
abbrev pub posting_of : List PostedPlace → Posting
posting_of places = record {
  slots = map (λ p. p.slot) places;
  jobs = map (λ p. p.job) places;
  workers = map (λ p. p.workers) places;
}

-- it names this job, or none
abbrev pub naming : PostedPlace → Option JobParts → PostedPlace
naming p job = record { slot = p.slot; job = job; workers = p.workers }

-- a slot that nothing was posted to
abbrev pub vacant : TableId → ℕ → PostedPlace
vacant id made = record { slot = id; job = None; workers = count made 0 }

-- there is one worker more
abbrev pub with_one_more : PostedPlace → PostedPlace
with_one_more p = record {
  slot = p.slot;
  job = p.job;
  workers = count (p.workers.made + 1) p.workers.retired;
}

-- one more of them is retired
abbrev pub with_one_retired : PostedPlace → PostedPlace
with_one_retired p = record { slot = p.slot; job = p.job; workers = one_retired p.workers }

-- It has the slot out where it names no job; else it names the job that was posted.
abbrev pub IsPosterPlace : (posted : Bool) → Seated → Type 0
IsPosterPlace true me = (job : JobParts) × ((c : Workers) × (me ≡ (poster (Some job) false c, [])))
IsPosterPlace false me = (c : Workers) × (me ≡ (poster None false c, (0, None) ∷ []))

-- ---- a worker's seat at one slot

-- What it knows.
pub record WorkedPlace : Type 0 where
  pub slot : TableId
  pub job : Option JobParts

-- what a worker's seat knows, from what it knows at each slot
abbrev pub working_of : List WorkedPlace → Working
working_of places = record { slots = map (λ p. p.slot) places; jobs = map (λ p. p.job) places }

-- the worker names this job, or none
abbrev pub holding : WorkedPlace → Option JobParts → WorkedPlace
holding p job = record { slot = p.slot; job = job }

-- it holds nothing there
abbrev pub idle_place : TableId → WorkedPlace
idle_place id = record { slot = id; job = None }

-- It has the slot out where it holds it.
abbrev pub IsWorkerPlace : (worker : ℕ) → (held : Bool) → Seated → Type 0
IsWorkerPlace worker true me = (job : JobParts) × (me ≡ (holds worker job, (0, None) ∷ []))
IsWorkerPlace worker false me = me ≡ (idle worker, [])
