-- What a seat at one slot knows after a step.
-- Serves: PosterPlace, WorkerPlace.
use Rattle.std.proofs.Common.{◌≡◌, ℕ, ◌+◌, Bool, true, false, [], ◌∷◌, Option, Some, None, sym, ap, ◌∙◌}
use Rattle.atomic_table.specs.Seated.{TableId}
use Rattle.witness_spec.specs.Events.{JobParts}
use Rattle.hand_off.specs.Seats.{AreRetired, Count, count}
use Rattle.hand_off.specs.Slots.{Seated, holds, poster, recruiter, retirer, workers}
use Rattle.hand_off.specs.Places.{IsPosterPlace, PostedPlace, WorkedPlace, job_named, workers_counted, naming}
use Rattle.hand_off.specs.Places.{holding}
use Rattle.hand_off.specs.declared.view.View.{View}
use Rattle.hand_off.specs.declared.view.Workers.{Workers}
use Rattle.hand_off.proofs.Taken.{both_parts, first_is}

-- what the poster knows by its seat
abbrev pub posted_by : TableId → Seated → PostedPlace
posted_by id me = record { slot = id; job = job_named me.0; workers = workers_counted me.0 }

-- what a worker knows by its seat
abbrev pub worked_by : TableId → Seated → WorkedPlace
worked_by id me = record { slot = id; job = job_named me.0 }

-- a view's job, and the workers that it counts
pub job_of : (me : Seated) (n : Seated) → me ≡ n → job_named me.0 ≡ job_named n.0
job_of me n is = ap (λ (m : Seated). job_named m.0) is

-- and the workers that it counts
pub counted_of : (me : Seated) (n : Seated) → me ≡ n → workers_counted me.0 ≡ workers_counted n.0
counted_of me n is = ap (λ (m : Seated). workers_counted m.0) is

-- the poster knows what it knew
pub poster_same : (now : PostedPlace) (id id' : TableId) (me me' : Seated) → posted_by id me ≡ now → id' ≡ id
    → job_named me'.0 ≡ job_named me.0 → workers_counted me'.0 ≡ workers_counted me.0
    → posted_by id' me' ≡ now
poster_same now id id' me me' is same job counted =
    (λ i. record { slot = same i; job = job i; workers = counted i }) ∙ is

-- it names another job, or none
pub poster_names : (now : PostedPlace) (id id' : TableId) (me me' : Seated) (job : Option JobParts)
    → posted_by id me ≡ now → id' ≡ id → job_named me'.0 ≡ job → workers_counted me'.0 ≡ workers_counted me.0
    → posted_by id' me' ≡ naming now job
poster_names now id id' me me' job is same named counted =
    (λ i. record { slot = same i; job = named i; workers = counted i })
    ∙ ap (λ (p : PostedPlace). naming p job) is

-- a worker names another job, or none
pub worker_names : (now : WorkedPlace) (id id' : TableId) (me me' : Seated) (job : Option JobParts)
    → worked_by id me ≡ now → id' ≡ id → job_named me'.0 ≡ job → worked_by id' me' ≡ holding now job
worker_names now id id' me me' job is same named =
    (λ i. record { slot = same i; job = named i }) ∙ ap (λ (p : WorkedPlace). holding p job) is

-- the poster's seat stays one where there is one worker more
pub recruits_place : (posted : Bool) (me me' : Seated) → IsPosterPlace posted me → me'.0 ≡ recruiter me.0
    → me'.1 ≡ me.1 → IsPosterPlace posted me'
recruits_place true me me' own more same = (
  own.0,
  (
    workers (own.1.0.made + 1) own.1.0.retired None,
    both_parts me' me _ _ _ own.1.1 (more ∙ ap recruiter (first_is _ _ _ own.1.1)) same,
  ),
)
recruits_place false me me' own more same = (
  workers (own.0.made + 1) own.0.retired None,
  both_parts me' me _ _ _ own.1 (more ∙ ap recruiter (first_is _ _ _ own.1)) same,
)

-- and where one is retired
pub retires_place : (posted : Bool) (me me' : Seated) (v : View) → IsPosterPlace posted me
    → me'.0 ≡ retirer me.0 v → me'.1 ≡ me.1 → IsPosterPlace posted me'
retires_place true me me' v own fewer same = (
  own.0,
  (
    workers own.1.0.made (own.1.0.retired + 1) None,
    both_parts me' me _ _ _ own.1.1 (fewer ∙ ap (λ (u : View). retirer u v) (first_is _ _ _ own.1.1)) same,
  ),
)
retires_place false me me' v own fewer same = (
  workers own.0.made (own.0.retired + 1) None,
  both_parts me' me _ _ _ own.1 (fewer ∙ ap (λ (u : View). retirer u v) (first_is _ _ _ own.1)) same,
)

-- what the poster names is what it posted
pub posted_is : (now : PostedPlace) (id : TableId) (me : Seated) (job : JobParts) (c : Workers)
    → posted_by id me ≡ now → me ≡ (poster (Some job) false c, []) → now.job ≡ Some job
posted_is now id me job c is own = sym (ap (λ (p : PostedPlace). p.job) is) ∙ job_of _ _ own

-- and the workers that it counts are the rule's
pub counted_is : (now : PostedPlace) (id : TableId) (me : Seated) (job : JobParts) (c : Workers)
    → posted_by id me ≡ now → me ≡ (poster (Some job) false c, []) → AreRetired now.workers
    → c.retired ≡ c.made
counted_is now id me job c is own retired =
    let w : now.workers ≡ count c.made c.retired =
    sym (ap (λ (p : PostedPlace). p.workers) is) ∙ counted_of _ _ own in
    ap (λ (n : Count). n.retired) (sym w) ∙ (retired ∙ ap (λ (n : Count). n.made) w)

-- what a worker names is what it holds
pub held_is : (now : WorkedPlace) (id : TableId) (me : Seated) (w : ℕ) (job : JobParts)
    → worked_by id me ≡ now → me ≡ (holds w job, (0, None) ∷ []) → now.job ≡ Some job
held_is now id me w job is own = sym (ap (λ (p : WorkedPlace). p.job) is) ∙ job_of _ _ own
