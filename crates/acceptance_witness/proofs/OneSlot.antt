-- What seats name where there is one slot.
-- Serves: collected, finds_nothing, passes.
use Rattle.std.proofs.Common.{◌≡◌, List, [], ◌∷◌, All, map, set, length, IsSome, Option, Some, None}
use Rattle.std.proofs.Common.{refl, ap, ◌∙◌, arith}
use Rattle.std.proofs.lemmas.List.Elements.{All-nil, All-cons}
use Rattle.replay_pool.specs.hand_off.Seats.{AreRetired, TableId, Working, count}
use Rattle.replay_pool.specs.hand_off.Seats.{idle_at, job_at, none_at, one_retired, working}

-- once the one job is named no more, none is
pub none_set : (jobs : List (Option _)) (ids : List TableId) → length jobs ≡ 1 → length ids ≡ 1
    → set jobs 0 None ≡ none_at ids
none_set [] ids one long = absurd (omega (arith, one))
none_set (j ∷ k ∷ js) ids one long = absurd (omega (arith, one))
none_set (j ∷ []) [] one long = absurd (omega (arith, long))
none_set (j ∷ []) (x ∷ y ∷ xs) one long = absurd (omega (arith, long))
none_set (j ∷ []) (x ∷ []) one long = refl

-- where the one slot names no job, none is named
pub none_named : (jobs : List (Option _)) (ids : List TableId) → length jobs ≡ 1 → length ids ≡ 1
    → job_at jobs 0 ≡ None → jobs ≡ none_at ids
none_named [] ids one long none = absurd (omega (arith, one))
none_named (j ∷ k ∷ js) ids one long none = absurd (omega (arith, one))
none_named (j ∷ []) [] one long none = absurd (omega (arith, long))
none_named (j ∷ []) (x ∷ y ∷ xs) one long none = absurd (omega (arith, long))
none_named (j ∷ []) (x ∷ []) one long none = ap (λ (y : Option _). y ∷ []) none

-- a worker that holds no slot names no job at the first one
pub none_held : (w : Working) (ids : List TableId) → w ≡ idle_at ids → job_at w.jobs 0 ≡ None
none_held w ids idle = ap (λ (v : Working). job_at v.jobs 0) idle ∙ first ids
  where
    first : (xs : List TableId) → job_at (none_at xs) 0 ≡ None
    first [] = refl
    first (x ∷ xs) = refl

-- an option that is `None` has no value
pub not_some : {A : Type 0} (o : Option A) → o ≡ None → IsSome o → ⊥
not_some None is some = cc
not_some (Some j) is some = cc

-- an option that is `None` isn't `Some` of any value
pub not_this : {A : Type 0} (o : Option A) (j : A) → o ≡ None → o ≡ Some j → ⊥
not_this o j is some = cc

set_back : (ids : List TableId) (job : Option _) → set (set (none_at ids) 0 job) 0 None ≡ none_at ids
set_back [] job = refl
set_back (x ∷ xs) job = refl

-- a worker that gave back what it took holds nothing
pub given_back : (ids : List TableId) (job : Option _) (old held new : Working) → old ≡ idle_at ids
    → held ≡ working old 0 job → new ≡ working held 0 None → new ≡ idle_at ids
given_back ids job old held new idle took gave =
    gave
    ∙ (ap (λ (w : Working). working w 0 None) (took ∙ ap (λ (w : Working). working w 0 job) idle)
    ∙ (λ k. record { slots = ids; jobs = set_back ids job k }))

-- two workers that are retired are all of them
pub both_retired : (ids : List TableId)
    → All AreRetired (map one_retired (map one_retired (map (λ _. count 2 0) ids)))
both_retired [] = All-nil AreRetired
both_retired (x ∷ xs) =
    All-cons AreRetired (count 2 2) (map one_retired (map one_retired (map (λ _. count 2 0) xs))) refl
    (both_retired xs)
