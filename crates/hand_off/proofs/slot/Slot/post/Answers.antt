use Rattle.std.proofs.Common.{rules, ◌∙◌, ◌∷◌, Some, ap}
use Rattle.atomic_table.specs.Table.{rest}
use Rattle.replay_jobs.specs.declared.job.Back.TheVariants.{Job}
use Rattle.hand_off.specs.Slots.{Seated}
use Rattle.hand_off.proofs.Keeping.{posts_keeps}
use Rattle.hand_off.proofs.slot.Slot.post.Goals as goal

pub compare_exchange-requires : goal.compare_exchange-requires
compare_exchange-requires c = (
  c.exchange-old.ensures.0 ∙ c.requires.seat,
  search rules,
  posts_keeps _ _ c.requires.empty.0 c.args.job _
      (c.exchange-old.ensures.3 ∙ ap (λ (m : Seated). (m.0, (0, Some (Job c.args.job)) ∷ rest m.1)) c.requires.empty.1),
)

pub returns-clause-posted : goal.returns-clause-posted
returns-clause-posted c =
    λ made is. (c.compare_exchange.ensures.2 c.args.job made
    (c.exchange-old.ensures.3 ∙ ap (λ (m : Seated). (m.0, (0, Some (Job c.args.job)) ∷ rest m.1)) is)).1
