use Rattle.std.proofs.Common.{◌≡◌, ℕ, List, All, IsSome, Option, vec_len, map, ap, sym, ◌∙◌, subst, arith}
use Rattle.std.specs.List.{AllZip}
use Rattle.hand_off.specs.replay_jobs.witness_spec.Events.{JobParts}
use Rattle.hand_off.specs.Seats.{Count, Posting, count}
use Rattle.replay_pool.specs.Rounds.{IsBackAt}
use Rattle.replay_pool.proofs.Posted.{all_some, none_retired, own_backs}
use Rattle.replay_pool.proofs.round.replay_round.Goals as goal

pub retire_all-requires-clause-workers : goal.retire_all-requires-clause-workers
retire_all-requires-clause-workers g c =
    let few : c.args.workers ≡ vec_len c.run_workers-seats.result =
    omega (arith, c.run_workers-seats.ensures.len, c.in-Ok-open.ensures.count) in
    let own : c.post_all.new.poster.workers ≡ map (λ _. count c.args.workers 0) c.in-Ok-open.hand_off =
    c.post_all.ensures.workers ∙ ap (λ (p : Posting). p.workers) c.in-Ok-open.ensures.poster in
    subst (λ (n : ℕ). All (λ (w : Count). w ≡ count n 0) c.post_all.new.poster.workers) few
    (subst (All (λ (w : Count). w ≡ count c.args.workers 0)) (sym own)
    (none_retired c.in-Ok-open.hand_off c.args.workers))

pub collect_all-backs-requires-clause-posted : goal.collect_all-backs-requires-clause-posted
collect_all-backs-requires-clause-posted g c =
    subst (All IsSome) (sym (c.retire_all.ensures.jobs ∙ c.post_all.ensures.jobs)) (all_some c.args.jobs.items)

pub returns-clause-backs : goal.returns-clause-backs
returns-clause-backs g c =
    own_backs c.args.jobs.items c.collect_all-backs.result.items
    (subst (λ (x : List (Option JobParts)). AllZip IsBackAt x c.collect_all-backs.result.items)
    (c.retire_all.ensures.jobs ∙ c.post_all.ensures.jobs) c.collect_all-backs.ensures.backs)
