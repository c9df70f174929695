-- Codes, by which a proof tells values apart.
use Rattle.std.specs.Prelude.{ℕ, List, Option, refl}
use Rattle.std.specs.Coded.{Coded, code_by, coded×, coded_ℕ, coded_list, coded_option}
use Rattle.atomic_table.specs.Seated.{TableId, table_id_coded}
use Rattle.replay_jobs.specs.Codes.{job_code}
use Rattle.witness_spec.specs.Events.{JobParts}
use Rattle.hand_off.specs.Seats.{Count, Posting, Working}
use Rattle.hand_off.specs.Places.{PostedPlace, WorkedPlace}

-- of a job, or none
abbrev pub named_code : Coded (Option JobParts)
named_code = coded_option job_code

-- of a count of workers
abbrev pub count_code : Coded Count
count_code =
    code_by (ℕ × ℕ) (coded× coded_ℕ coded_ℕ)
    (λ c. (c.made, c.retired)) (λ p. record { made = p.0; retired = p.1 }) (λ _. refl)

-- of what the poster's seat knows at one slot
abbrev pub posted_place_code : Coded PostedPlace
posted_place_code =
    code_by (TableId × (Option JobParts × Count)) (coded× table_id_coded (coded× named_code count_code))
    (λ p. (p.slot, (p.job, p.workers)))
    (λ q. record { slot = q.0; job = q.1.0; workers = q.1.1 }) (λ _. refl)

-- of what a worker's seat knows at one slot
abbrev pub worked_place_code : Coded WorkedPlace
worked_place_code =
    code_by (TableId × Option JobParts) (coded× table_id_coded named_code)
    (λ p. (p.slot, p.job)) (λ q. record { slot = q.0; job = q.1 }) (λ _. refl)

-- of what the poster's seat knows
abbrev pub posting_code : Coded Posting
posting_code =
    code_by (List TableId × (List (Option JobParts) × List Count))
    (coded× (coded_list table_id_coded) (coded× (coded_list named_code) (coded_list count_code)))
    (λ p. (p.slots, (p.jobs, p.workers)))
    (λ q. record { slots = q.0; jobs = q.1.0; workers = q.1.1 }) (λ _. refl)

-- of what a worker's seat knows
abbrev pub working_code : Coded Working
working_code =
    code_by (List TableId × List (Option JobParts))
    (coded× (coded_list table_id_coded) (coded_list named_code))
    (λ w. (w.slots, w.jobs)) (λ q. record { slots = q.0; jobs = q.1 }) (λ _. refl)
