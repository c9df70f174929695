-- Entries in two parts, and the pairs of places.
-- Serves: places_are_joined.
use Rattle.std.proofs.Common.{◌≡◌, ℕ, ◌+◌, List, [], ◌∷◌, ◌++◌, map, refl, ap, ◌∙◌, arith}
use Rattle.secure_log.specs.LogEntries.Chain.{Logged, hash_after, last_hash, logged_link, logged_links, pairs, span}
use Rattle.replay_spec.specs.Placed.{logged_place, logged_places}
use Rattle.replay_spec.specs.Laws.{pair_at}

-- the places of entries in two parts
pub places_joined : (before : ℕ) (opening : List ℕ) (log more : List Logged)
    → logged_places before opening (log ++ more)
    ≡ logged_places before opening log
    ++ logged_places (before + span log) (last_hash opening (logged_links before log)) more
places_joined before opening [] more =
    let same : before ≡ before + 0 = omega arith in ap (λ n. logged_places n opening more) same
places_joined before opening (l ∷ log) more =
    let n = before + 1 + l.skipped in
    let same : n + span log ≡ before + span (l ∷ log) = omega arith in
    let after = hash_after opening (logged_link n l) in
    let end = last_hash opening (logged_links before (l ∷ log)) in
    ap (λ ps. logged_place n opening l ∷ ps)
    (places_joined n after log more ∙ ap (λ m. logged_places n after log ++ logged_places m end more) same)

-- the pairs of places, after the first
pub places_paired : (before : ℕ) (opening : List ℕ) (log : List Logged)
    → pairs before opening (logged_links before log)
    ≡ (before, opening) ∷ map pair_at (logged_places before opening log)
places_paired before opening [] = refl
places_paired before opening (l ∷ log) =
    let n = before + 1 + l.skipped in
    ap (λ ps. (before, opening) ∷ ps) (places_paired n (hash_after opening (logged_link n l)) log)
