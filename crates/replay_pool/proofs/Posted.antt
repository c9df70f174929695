-- What the poster's seat and a worker's name while a round goes on.
-- Serves: try_slot, post_all, retire_all, collect_all, replay_round.
use Rattle.std.proofs.Common.{◌≡◌, ℕ, zero, suc, ◌+◌, ◌<◌, List, [], ◌∷◌, ◌++◌, map, take, drop, set, length}
use Rattle.std.proofs.Common.{get_or}
use Rattle.std.proofs.Common.{All, IsSome, Option, Some, None, refl, sym, ap, ◌∙◌, arith, add-one}
use Rattle.std.proofs.Math.Seq.{take-suc}
use Rattle.std.proofs.lemmas.List.{same_from_push}
use Rattle.std.proofs.lemmas.List.Elements.{All-nil, All-cons, All-map, All-weaker}
use Rattle.std.specs.List.{AllZip}
use Rattle.hand_off.specs.replay_jobs.witness_spec.Events.{JobParts}
use Rattle.hand_off.specs.replay_jobs.Backs.{job_in}
use Rattle.hand_off.specs.replay_jobs.declared.job.Back.{Back}
use Rattle.hand_off.specs.Seats.{AreRetired, Count, TableId, Working, count, idle_at, none_at, one_retired}
use Rattle.hand_off.specs.Seats.{working}
use Rattle.replay_pool.specs.Rounds.{IsBackAt, IsBackOf, some_jobs}

-- ---- a worker

set_back : (ids : List TableId) (i : ℕ) (job : Option JobParts)
    → set (set (none_at ids) i job) i None ≡ none_at ids
set_back [] i job = refl
set_back (x ∷ xs) zero job = refl
set_back (x ∷ xs) (suc i) job = ap (λ (ys : List (Option JobParts)). None ∷ ys) (set_back xs i job)

-- a worker that gave back what it took holds nothing, as before
pub given_back : (ids : List TableId) (i : ℕ) (job : Option JobParts) (old held new : Working)
    → old ≡ idle_at ids
    → held ≡ working old i job → new ≡ working held i None → new ≡ old
given_back ids i job old held new idle took gave =
    gave
    ∙ (ap (λ (w : Working). working w i None) (took ∙ ap (λ (w : Working). working w i job) idle)
    ∙ ((λ k. record { slots = ids; jobs = set_back ids i job k }) ∙ sym idle))

-- ---- jobs are posted, the last one first

none_last : (ids : List TableId) (i : ℕ) (more : List (Option JobParts)) → i < length ids
    → get_or (take (suc i) (none_at ids) ++ more) i None ≡ None
none_last [] i more lt = absurd (omega (arith, lt))
none_last (x ∷ xs) zero more lt = refl
none_last (x ∷ xs) (suc i) more lt = none_last xs i more (omega (arith, lt))

set_last : (ids : List TableId) (i : ℕ) (job : Option JobParts) (more : List (Option JobParts))
    → i < length ids
    → set (take (suc i) (none_at ids) ++ more) i job ≡ take i (none_at ids) ++ job ∷ more
set_last [] i job more lt = absurd (omega (arith, lt))
set_last (x ∷ xs) zero job more lt = refl
set_last (x ∷ xs) (suc i) job more lt =
    ap (λ (ys : List (Option JobParts)). None ∷ ys) (set_last xs i job more (omega (arith, lt)))

one_last : (ids : List TableId) (jobs : List JobParts) (n i : ℕ) (names : List (Option JobParts)) → n ≡ i + 1
    → names ≡ take n (none_at ids) ++ some_jobs (drop n jobs)
    → names ≡ take (suc i) (none_at ids) ++ some_jobs (drop (suc i) jobs)
one_last ids jobs n i names next is =
    let after : n ≡ suc i = omega (arith, next) in
    is ∙ ap (λ (k : ℕ). take k (none_at ids) ++ some_jobs (drop k jobs)) after

-- the slot of the next job names none
pub not_posted : (ids : List TableId) (jobs : List JobParts) (n i : ℕ) (names : List (Option JobParts))
    → n ≡ i + 1
    → i < length ids → names ≡ take n (none_at ids) ++ some_jobs (drop n jobs) → get_or names i None ≡ None
not_posted ids jobs n i names next lt is =
    ap (λ (x : List (Option JobParts)). get_or x i None) (one_last ids jobs n i names next is)
    ∙ none_last ids i (some_jobs (drop (suc i) jobs)) lt

-- nothing is none
pub not_some : (o : Option JobParts) → o ≡ None → IsSome o → ⊥
not_some None is some = cc
not_some (Some j) is some = cc

-- the last of the jobs that are left
pub last_job : (jobs left rest : List JobParts) (job : JobParts) (n i : ℕ) → n ≡ i + 1 → i < length jobs
    → left ≡ take n jobs → left ≡ rest ++ job ∷ [] → (rest ≡ take i jobs) × (job ≡ get_or jobs i job)
last_job jobs left rest job n i next lt is split =
    let after : n ≡ suc i = omega (arith, next) in
    same_from_push rest (take i jobs) job (get_or jobs i job)
    (sym split ∙ (is ∙ (ap (λ (k : ℕ). take k jobs) after ∙ take-suc jobs i job lt)))

drop_here : (jobs : List JobParts) (i : ℕ) (job : JobParts) → i < length jobs → job ≡ get_or jobs i job
    → some_jobs (drop i jobs) ≡ Some job ∷ some_jobs (drop (suc i) jobs)
drop_here [] i job lt is = absurd (omega (arith, lt))
drop_here (x ∷ xs) zero job lt is = ap (λ (y : JobParts). some_jobs (y ∷ xs)) (sym is)
drop_here (x ∷ xs) (suc i) job lt is = drop_here xs i job (omega (arith, lt)) is

-- one job more is posted
pub posted_more : (ids : List TableId) (jobs : List JobParts) (job : JobParts) (n i : ℕ)
    (names : List (Option JobParts)) → n ≡ i + 1 → i < length ids → i < length jobs → job ≡ get_or jobs i job
    → names ≡ take n (none_at ids) ++ some_jobs (drop n jobs)
    → set names i (Some job) ≡ take i (none_at ids) ++ some_jobs (drop i jobs)
posted_more ids jobs job n i names next low lt own is =
    ap (λ (x : List (Option JobParts)). set x i (Some job)) (one_last ids jobs n i names next is)
    ∙ (set_last ids i (Some job) (some_jobs (drop (suc i) jobs)) low
    ∙ ap (λ (x : List (Option JobParts)). take i (none_at ids) ++ x) (sym (drop_here jobs i job lt own)))

-- ---- workers are retired

-- no worker is retired at first
pub none_retired : (ids : List TableId) (made : ℕ)
    → All (λ (c : Count). c ≡ count made 0) (map (λ _. count made 0) ids)
none_retired [] made = All-nil (λ (c : Count). c ≡ count made 0)
none_retired (x ∷ xs) made =
    All-cons (λ (c : Count). c ≡ count made 0) (count made 0) (map (λ _. count made 0) xs) refl
    (none_retired xs made)

-- one more is
pub retired_more : (made retired : ℕ) (counts : List Count)
    → All (λ (c : Count). c ≡ count made retired) counts
    → All (λ (c : Count). c ≡ count made (retired + 1)) (map one_retired counts)
retired_more made retired counts all =
    All-map (λ (c : Count). c ≡ count made (retired + 1)) one_retired counts
    (All-weaker (λ (c : Count). c ≡ count made retired)
    (λ (c : Count). one_retired c ≡ count made (retired + 1))
    (λ c is. ap one_retired is) counts all)

-- all are
pub all_retired : (made retired : ℕ) (counts : List Count) → retired ≡ made
    → All (λ (c : Count). c ≡ count made retired) counts → All AreRetired counts
all_retired made retired counts same all =
    All-weaker (λ (c : Count). c ≡ count made retired) AreRetired
    (λ c is. ap (λ (x : Count). x.retired) is ∙ (same ∙ ap (λ (x : Count). x.made) (sym is))) counts all

-- ---- what came back is collected

collected_at : (ids : List TableId) (first : List (Option JobParts)) (i : ℕ) → length first ≡ length ids
    → i < length ids → get_or (take i (none_at ids) ++ drop i first) i None ≡ get_or first i None
collected_at [] first i long lt = absurd (omega (arith, lt))
collected_at (x ∷ xs) [] i long lt = absurd (omega (arith, long))
collected_at (x ∷ xs) (y ∷ ys) zero long lt = refl
collected_at (x ∷ xs) (y ∷ ys) (suc i) long lt =
    collected_at xs ys i (omega (arith, long)) (omega (arith, lt))

-- what the next slot names
pub next_named : (ids : List TableId) (first names : List (Option JobParts)) (i : ℕ)
    → length first ≡ length ids
    → i < length ids → names ≡ take i (none_at ids) ++ drop i first
    → get_or names i None ≡ get_or first i None
next_named ids first names i long lt is =
    ap (λ (x : List (Option JobParts)). get_or x i None) is ∙ collected_at ids first i long lt

set_next : (ids : List TableId) (first : List (Option JobParts)) (i : ℕ) → length first ≡ length ids
    → i < length ids
    → set (take i (none_at ids) ++ drop i first) i None ≡ take (suc i) (none_at ids) ++ drop (suc i) first
set_next [] first i long lt = absurd (omega (arith, lt))
set_next (x ∷ xs) [] i long lt = absurd (omega (arith, long))
set_next (x ∷ xs) (y ∷ ys) zero long lt = refl
set_next (x ∷ xs) (y ∷ ys) (suc i) long lt =
    ap (λ (zs : List (Option JobParts)). None ∷ zs)
    (set_next xs ys i (omega (arith, long)) (omega (arith, lt)))

-- one slot more names none
pub collected_more : (ids : List TableId) (first names : List (Option JobParts)) (i : ℕ)
    → length first ≡ length ids
    → i < length ids → names ≡ take i (none_at ids) ++ drop i first
    → set names i None ≡ take (i + 1) (none_at ids) ++ drop (i + 1) first
collected_more ids first names i long lt is =
    ap (λ (x : List (Option JobParts)). set x i None) is ∙ (set_next ids first i long lt ∙ rw add-one refl)

zip_push : (posted : List (Option JobParts)) (backs : List Back) (p : Option JobParts) (b : Back)
    → AllZip IsBackAt posted backs → IsBackAt p b → AllZip IsBackAt (posted ++ p ∷ []) (backs ++ b ∷ [])
zip_push [] [] p b all own = (own, tt)
zip_push [] (c ∷ cs) p b all own = absurd all
zip_push (q ∷ qs) [] p b all own = absurd all
zip_push (q ∷ qs) (c ∷ cs) p b all own = (all.0, zip_push qs cs p b all.1 own)

-- and what came back there is its own
pub backs_more : (first : List (Option JobParts)) (i : ℕ) (backs backs' : List Back) (b : Back)
    → i < length first
    → IsBackAt (get_or first i None) b → backs' ≡ backs ++ b ∷ [] → AllZip IsBackAt (take i first) backs
    → AllZip IsBackAt (take (i + 1) first) backs'
backs_more first i backs backs' b lt own more all =
    let one : take (i + 1) first ≡ take i first ++ get_or first i None ∷ [] =
    rw add-one refl ∙ take-suc first i None lt in
    rw (one, more) (zip_push (take i first) backs (get_or first i None) b all own)

-- ---- the whole round

-- jobs that were posted are some
pub all_some : (jobs : List JobParts) → All IsSome (some_jobs jobs)
all_some [] = All-nil IsSome
all_some (j ∷ js) = All-cons IsSome (Some j) (some_jobs js) refl (all_some js)

-- what came back is of the jobs
pub own_backs : (jobs : List JobParts) (backs : List Back) → AllZip IsBackAt (some_jobs jobs) backs
    → AllZip IsBackOf jobs backs
own_backs [] [] h = tt
own_backs [] (b ∷ bs) h = absurd h
own_backs (j ∷ js) [] h = absurd h
own_backs (j ∷ js) (b ∷ bs) h = let own : job_in b ≡ j = cc in (own, own_backs js bs h.1)
