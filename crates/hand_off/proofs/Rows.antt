-- Rows of slots, and of a seat's places at them.
-- Serves: HandOff, open_slots, recruit_all, recruit_row, retire_places.
use Rattle.std.proofs.Common.{◌≡◌, ℕ, zero, suc, ◌+◌, ◌<◌, List, [], ◌∷◌, ◌++◌, map, take, drop, set, length}
use Rattle.std.proofs.Common.{get_or}
use Rattle.std.proofs.Common.{All, IfNone, Option, Some, None, refl, sym, ap, ap₂, ◌∙◌, subst, arith, add-one}
use Rattle.std.proofs.Math.Seq.{map-set_same, take-suc}
use Rattle.std.proofs.lemmas.List.{get_or-map, length-map, map-append, map-set, same_from_push}
use Rattle.std.proofs.lemmas.List.Elements.{All-get_or, All-nil, All-cons}
use Rattle.atomic_table.specs.Seated.{TableId}
use Rattle.witness_spec.specs.Events.{JobParts}
use Rattle.hand_off.specs.Seats.{AreRetired, Posting, Working, idle_at, job_at, none_at, one_retired, opened}
use Rattle.hand_off.specs.Seats.{posting, retiring, working}
use Rattle.hand_off.specs.Places.{PostedPlace, WorkedPlace, holding, idle_place, naming, posting_of, slot_id}
use Rattle.hand_off.specs.Places.{slot_ids}
use Rattle.hand_off.specs.Places.{vacant, with_one_retired, working_of}
use Rattle.hand_off.specs.declared.slot.Slot.{Slot}

-- ---- one place

-- two rows with the same slots have the same number of places
same_long : {X : Type 0} (f : X → TableId) (places : List X) (ids : List TableId) → map f places ≡ ids
    → length places ≡ length ids
same_long f places ids same = sym (length-map places f) ∙ ap (λ (x : List TableId). length x) same

-- so a slot's number is that of a place
pub places_long : {X : Type 0} (f : X → TableId) (places : List X) (ids : List TableId) (i : ℕ)
    → map f places ≡ ids
    → i < length ids → i < length places
places_long f places ids i same lt = omega (arith, same_long f places ids same)

-- there are as many numbers of slots as slots
pub slots_long : (slots : List Slot) → length (slot_ids slots) ≡ length slots
slots_long slots = length-map slots slot_id

-- what follows where there is nothing
pub none_then : {X P Q : Type 0} (r : Option X) → IfNone r P → (P → Q) → IfNone r Q
none_then None p f = f p
none_then (Some x) p f = tt

-- the slot of a place is the one of its number
pub slot_there : {X : Type 0} (f : X → TableId) (places : List X) (slots : List Slot) (i : ℕ) (p d : X)
    (s e : Slot)
    → map f places ≡ slot_ids slots → i < length (slot_ids slots) → p ≡ get_or places i d
    → s ≡ get_or slots i e
    → f p ≡ slot_id s
slot_there f places slots i p d s e same lt is it =
    let a : i < length places = omega (arith, same_long f places (slot_ids slots) same) in
    let b : i < length slots = omega (arith, length-map slots slot_id) in
    ap f is
    ∙ (sym (get_or-map f places i d (slot_id e) a)
    ∙ (ap (λ (x : List TableId). get_or x i (slot_id e)) same
    ∙ (get_or-map slot_id slots i e (slot_id e) b ∙ ap slot_id (sym it))))

-- no job is named at any place
none_there : (ids : List TableId) (i : ℕ) → get_or (none_at ids) i None ≡ None
none_there [] i = refl
none_there (x ∷ xs) zero = refl
none_there (x ∷ xs) (suc i) = none_there xs i

-- a worker that holds nothing holds no slot
pub idle_there : (places : List WorkedPlace) (ids : List TableId) (i : ℕ) (p d : WorkedPlace)
    → working_of places ≡ idle_at ids → i < length ids → p ≡ get_or places i d → p.job ≡ None
idle_there places ids i p d idle lt is =
    let same : map (λ (q : WorkedPlace). q.slot) places ≡ ids = ap (λ (w : Working). w.slots) idle in
    let a : i < length places = omega (arith, same_long (λ (q : WorkedPlace). q.slot) places ids same) in
    ap (λ (q : WorkedPlace). q.job) is
    ∙ (sym (get_or-map (λ (q : WorkedPlace). q.job) places i d None a)
    ∙ (ap (λ (w : Working). job_at w.jobs i) idle ∙ none_there ids i))

-- the job that is named at a slot is that of its place
pub job_there : {X : Type 0} (f : X → Option JobParts) (places : List X) (i : ℕ) (p d : X) → i < length places
    → p ≡ get_or places i d → job_at (map f places) i ≡ f p
job_there f places i p d lt is = get_or-map f places i d None lt ∙ ap f (sym is)

-- where all workers are retired, those of each place are
pub retired_there : (places : List PostedPlace) (ids : List TableId) (i : ℕ) (p d : PostedPlace)
    → map (λ q. q.slot) places ≡ ids → i < length ids → p ≡ get_or places i d
    → All AreRetired (map (λ q. q.workers) places) → AreRetired p.workers
retired_there places ids i p d same lt is all =
    let a : i < length places = omega (arith, same_long (λ (q : PostedPlace). q.slot) places ids same) in
    let b : i < length (map (λ (q : PostedPlace). q.workers) places) =
    omega (arith, a, length-map places (λ (q : PostedPlace). q.workers)) in
    let h = All-get_or AreRetired (map (λ (q : PostedPlace). q.workers) places) i d.workers b all in
    subst AreRetired
    (get_or-map (λ (q : PostedPlace). q.workers) places i d d.workers a
    ∙ ap (λ (q : PostedPlace). q.workers) (sym is)) h

-- the poster names another job at a slot, or none
pub names_there : (places : List PostedPlace) (i : ℕ) (p q d : PostedPlace) (job : Option JobParts)
    → q ≡ naming p job → p ≡ get_or places i d
    → posting_of (set places i q) ≡ posting (posting_of places) i job
names_there places i p q d job new is = λ k. record {
  slots = map-set_same (λ (x : PostedPlace). x.slot) places i q d (ap (λ (x : PostedPlace). x.slot) now) k;
  jobs = (map-set (λ (x : PostedPlace). x.job) places i q
      ∙ ap (λ (j : Option JobParts). set (map (λ (x : PostedPlace). x.job) places) i j)
      (ap (λ (x : PostedPlace). x.job) new)) k;
  workers = map-set_same (λ (x : PostedPlace). x.workers) places i q d
      (ap (λ (x : PostedPlace). x.workers) now) k;
}
  where
    now : q ≡ naming (get_or places i d) job
    now = new ∙ ap (λ (x : PostedPlace). naming x job) is

-- so does a worker
pub holds_there : (places : List WorkedPlace) (i : ℕ) (p q d : WorkedPlace) (job : Option JobParts)
    → q ≡ holding p job → p ≡ get_or places i d
    → working_of (set places i q) ≡ working (working_of places) i job
holds_there places i p q d job new is = λ k. record {
  slots = map-set_same (λ (x : WorkedPlace). x.slot) places i q d (ap (λ (x : WorkedPlace). x.slot) now) k;
  jobs = (map-set (λ (x : WorkedPlace). x.job) places i q
      ∙ ap (λ (j : Option JobParts). set (map (λ (x : WorkedPlace). x.job) places) i j)
      (ap (λ (x : WorkedPlace). x.job) new)) k;
}
  where
    now : q ≡ holding (get_or places i d) job
    now = new ∙ ap (λ (x : WorkedPlace). holding x job) is

-- ---- whole rows

-- places that nothing was posted to have these slots
pub vacant_slots : (made : ℕ) (slots : List Slot)
    → map (λ (p : PostedPlace). p.slot) (map (λ s. vacant (slot_id s) made) slots) ≡ slot_ids slots
vacant_slots made [] = refl
vacant_slots made (s ∷ ss) = ap (λ (x : List TableId). slot_id s ∷ x) (vacant_slots made ss)

-- and name no job
pub vacant_jobs : (made : ℕ) (slots : List Slot)
    → All (λ (p : PostedPlace). p.job ≡ None) (map (λ s. vacant (slot_id s) made) slots)
vacant_jobs made [] = All-nil (λ (p : PostedPlace). p.job ≡ None)
vacant_jobs made (s ∷ ss) =
    All-cons (λ (p : PostedPlace). p.job ≡ None) (vacant (slot_id s) made)
    (map (λ t. vacant (slot_id t) made) ss) refl
    (vacant_jobs made ss)

-- the poster's seat at slots that were opened
pub opened_seat : (made : ℕ) (slots : List Slot)
    → posting_of (map (λ s. vacant (slot_id s) made) slots) ≡ opened (slot_ids slots) made
opened_seat made [] = refl
opened_seat made (s ∷ ss) =
    ap (λ (p : Posting). record {
      slots = slot_id s ∷ p.slots;
      jobs = None ∷ p.jobs;
      workers = record { made = made; retired = 0 } ∷ p.workers;
    }) (opened_seat made ss)

-- a worker's seat at them
pub idle_seat : (slots : List Slot)
    → working_of (map (λ s. idle_place (slot_id s)) slots) ≡ idle_at (slot_ids slots)
idle_seat [] = refl
idle_seat (s ∷ ss) =
    ap (λ (w : Working). record { slots = slot_id s ∷ w.slots; jobs = None ∷ w.jobs }) (idle_seat ss)

-- a worker's seat that holds nothing has these places
pub idle_places : (places : List WorkedPlace) (slots : List Slot)
    → working_of places ≡ idle_at (slot_ids slots)
    → places ≡ map (λ s. idle_place (slot_id s)) slots
idle_places [] [] h = refl
idle_places [] (s ∷ ss) h = absurd (none_is (ap (λ (w : Working). w.slots) h))
  where
    none_is : ◌≡◌ {A = List TableId} [] (slot_id s ∷ slot_ids ss) → ⊥
    none_is e = cc
idle_places (p ∷ ps) [] h = absurd (some_is (ap (λ (w : Working). w.slots) h))
  where
    some_is : ◌≡◌ {A = List TableId} (p.slot ∷ map (λ (q : WorkedPlace). q.slot) ps) [] → ⊥
    some_is e = cc
idle_places (p ∷ ps) (s ∷ ss) h =
    let a : p.slot ∷ map (λ (q : WorkedPlace). q.slot) ps ≡ slot_id s ∷ slot_ids ss =
    ap (λ (w : Working). w.slots) h in
    let b : p.job ∷ map (λ (q : WorkedPlace). q.job) ps ≡ None ∷ none_at (slot_ids ss) =
    ap (λ (w : Working). w.jobs) h in
    let slot : p.slot ≡ slot_id s = cc in
    let slots : map (λ (q : WorkedPlace). q.slot) ps ≡ slot_ids ss = cc in
    let job : p.job ≡ None = cc in
    let jobs : map (λ (q : WorkedPlace). q.job) ps ≡ none_at (slot_ids ss) = cc in
    ap₂ (λ (x : WorkedPlace) (xs : List WorkedPlace). x ∷ xs) (λ i. record { slot = slot i; job = job i })
    (idle_places ps ss (λ i. record { slots = slots i; jobs = jobs i }))

-- where no job is named, no place names one
pub none_named : (places : List PostedPlace) (ids : List TableId) → map (λ q. q.job) places ≡ none_at ids
    → All (λ (p : PostedPlace). p.job ≡ None) places
none_named [] ids h = All-nil (λ (p : PostedPlace). p.job ≡ None)
none_named (p ∷ ps) [] h = absurd (some_is h)
  where
    some_is : ◌≡◌ {A = List (Option JobParts)} (p.job ∷ map (λ (q : PostedPlace). q.job) ps) [] → ⊥
    some_is e = cc
none_named (p ∷ ps) (x ∷ xs) h =
    let job : p.job ≡ None = cc in
    let jobs : map (λ (q : PostedPlace). q.job) ps ≡ none_at xs = cc in
    All-cons (λ (q : PostedPlace). q.job ≡ None) p ps job (none_named ps xs jobs)

-- one worker more is retired at each place
pub retired_seat : (places : List PostedPlace)
    → posting_of (map with_one_retired places) ≡ retiring (posting_of places)
retired_seat [] = refl
retired_seat (p ∷ ps) =
    ap (λ (q : Posting). record {
      slots = p.slot ∷ q.slots;
      jobs = p.job ∷ q.jobs;
      workers = one_retired p.workers ∷ q.workers;
    }) (retired_seat ps)

-- ---- a row that is changed from its front on

-- what stands at the first place that isn't changed
pub front_there : (f g : Slot → PostedPlace) (slots : List Slot) (i : ℕ) (d : PostedPlace) (e : Slot)
    → i < length slots
    → get_or (map g (take i slots) ++ map f (drop i slots)) i d ≡ f (get_or slots i e)
front_there f g [] i d e lt = absurd (omega (arith, lt))
front_there f g (s ∷ ss) zero d e lt = refl
front_there f g (s ∷ ss) (suc i) d e lt = front_there f g ss i d e (omega (arith, lt))

-- that place is changed like those before it
front_set : (f g : Slot → PostedPlace) (slots : List Slot) (i : ℕ) (y : PostedPlace) (e : Slot)
    → i < length slots
    → y ≡ g (get_or slots i e)
    → set (map g (take i slots) ++ map f (drop i slots)) i y ≡ map g (take (suc i) slots)
    ++ map f (drop (suc i) slots)
front_set f g [] i y e lt is = absurd (omega (arith, lt))
front_set f g (s ∷ ss) zero y e lt is = ap (λ (x : PostedPlace). x ∷ map f ss) is
front_set f g (s ∷ ss) (suc i) y e lt is =
    ap (λ (x : List PostedPlace). g s ∷ x) (front_set f g ss i y e (omega (arith, lt)) is)

-- one more is changed
pub front_more : (f g : Slot → PostedPlace) (slots : List Slot) (i : ℕ) (row : List PostedPlace)
    (y : PostedPlace)
    (e : Slot)
    → i < length slots → row ≡ map g (take i slots) ++ map f (drop i slots) → y ≡ g (get_or slots i e)
    → set row i y ≡ map g (take (i + 1) slots) ++ map f (drop (i + 1) slots)
front_more f g slots i row y e lt is new =
    ap (λ (x : List PostedPlace). set x i y) is ∙ (front_set f g slots i y e lt new ∙ rw add-one refl)

-- one seat more of a worker
pub seats_more : (slots : List Slot) (i : ℕ) (row : List WorkedPlace) (y : WorkedPlace) (e : Slot)
    → i < length slots
    → row ≡ map (λ s. idle_place (slot_id s)) (take i slots) → y ≡ idle_place (slot_id (get_or slots i e))
    → row ++ y ∷ [] ≡ map (λ s. idle_place (slot_id s)) (take (i + 1) slots)
seats_more slots i row y e lt is new =
    ap₂ (λ (a : List WorkedPlace) (b : WorkedPlace). a ++ b ∷ []) is new
    ∙ (sym (map-append (λ s. idle_place (slot_id s)) (take i slots) (get_or slots i e ∷ []))
    ∙ ap (map (λ s. idle_place (slot_id s))) (sym (take-suc slots i e lt) ∙ rw add-one refl))

-- ---- a row that is changed from its end on

-- the last seat of some is that of the last slot
pub last_seat : (slots : List Slot) (n i : ℕ) (e : Slot) (left rest : List WorkedPlace) (p : WorkedPlace)
    → i < length slots → n ≡ i + 1 → left ≡ rest ++ p ∷ []
    → left ≡ map (λ s. idle_place (slot_id s)) (take n slots)
    → (rest ≡ map (λ s. idle_place (slot_id s)) (take i slots))
    × (p ≡ idle_place (slot_id (get_or slots i e)))
last_seat slots n i e left rest p lt next split is =
    let after : n ≡ suc i = omega (arith, next) in
    same_from_push rest (map (λ s. idle_place (slot_id s)) (take i slots)) p
    (idle_place (slot_id (get_or slots i e)))
    (sym split
    ∙ (is
    ∙ (ap (λ (k : ℕ). map (λ s. idle_place (slot_id s)) (take k slots)) after
    ∙ (ap (map (λ s. idle_place (slot_id s))) (take-suc slots i e lt)
    ∙ map-append (λ s. idle_place (slot_id s)) (take i slots) (get_or slots i e ∷ [])))))

-- the first of the changed places is read as it was
read_last : (f : PostedPlace → PostedPlace) (row : List PostedPlace) (i : ℕ) (d : PostedPlace)
    → i < length row
    → get_or (take (suc i) row ++ map f (drop (suc i) row)) i d ≡ get_or row i d
read_last f [] i d lt = absurd (omega (arith, lt))
read_last f (x ∷ xs) zero d lt = refl
read_last f (x ∷ xs) (suc i) d lt = read_last f xs i d (omega (arith, lt))

-- that place is changed like those after it
set_last : (f : PostedPlace → PostedPlace) (row : List PostedPlace) (i : ℕ) (d : PostedPlace) → i < length row
    → set (take (suc i) row ++ map f (drop (suc i) row)) i (f (get_or row i d)) ≡ take i row
    ++ map f (drop i row)
set_last f [] i d lt = absurd (omega (arith, lt))
set_last f (x ∷ xs) zero d lt = refl
set_last f (x ∷ xs) (suc i) d lt =
    ap (λ (ys : List PostedPlace). x ∷ ys) (set_last f xs i d (omega (arith, lt)))

-- the same by the number of the places that are left
last_is : (f : PostedPlace → PostedPlace) (row first : List PostedPlace) (n i : ℕ) → n ≡ i + 1
    → row ≡ take n first ++ map f (drop n first) → row ≡ take (suc i) first ++ map f (drop (suc i) first)
last_is f row first n i next is =
    let after : n ≡ suc i = omega (arith, next) in
    is ∙ ap (λ (k : ℕ). take k first ++ map f (drop k first)) after

-- what stands at the last place that isn't changed
pub last_there : (f : PostedPlace → PostedPlace) (row first : List PostedPlace) (n i : ℕ) (d : PostedPlace)
    → i < length first → n ≡ i + 1 → row ≡ take n first ++ map f (drop n first)
    → get_or row i d ≡ get_or first i d
last_there f row first n i d lt next is =
    ap (λ (x : List PostedPlace). get_or x i d) (last_is f row first n i next is) ∙ read_last f first i d lt

-- one more is changed
pub last_more : (f : PostedPlace → PostedPlace) (row first : List PostedPlace) (n i : ℕ) (p d y : PostedPlace)
    → i < length first → n ≡ i + 1 → row ≡ take n first ++ map f (drop n first) → p ≡ get_or row i d → y ≡ f p
    → set row i y ≡ take i first ++ map f (drop i first)
last_more f row first n i p d y lt next is read new =
    ap₂ (λ (ys : List PostedPlace) (z : PostedPlace). set ys i z) (last_is f row first n i next is)
    (new ∙ ap f (read ∙ last_there f row first n i d lt next is))
    ∙ set_last f first i d lt
