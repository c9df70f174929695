use Rattle.std.proofs.Common.{rules, arith, ◌≡◌, ◌≢◌, ◌<◌, inl, inr, ◌∙◌, Some, None, subst, refl, ℕ}
use Rattle.replay_jobs.specs.Backs.{job_in}
use Rattle.replay_jobs.specs.declared.job.Back.{Back}
use Rattle.hand_off.specs.Slots.{noted_by}
use Rattle.hand_off.proofs.Keeping.{notes_keeps, collects_keeps, noted_all}
use Rattle.hand_off.proofs.Taken.{in_front, found_in, put_in}
use Rattle.hand_off.proofs.slot.Slot.collect.Goals as goal

pub load-word-requires : goal.load-word-requires
load-word-requires c = let p = c.requires.posted in (c.requires.seat, search rules, notes_keeps _ _ p.1 p.0 _ p.2)

pub compare_exchange-found-requires : goal.compare_exchange-found-requires
compare_exchange-found-requires c =
    let p = c.requires.posted in
    let some_ : 0 < c.load-word.result =
    elim c.else-word-ne-READY.either [ inl h ↦ omega (arith, h.1) | inr h ↦ omega (arith, h) ] in
    let low : c.load-word.result < 3 =
    elim c.else-word-ne-READY.either [ inl h ↦ omega (arith, h.1) | inr h ↦ omega (arith, h) ] in (
      c.load-word.ensures.0 ∙ c.requires.seat,
      search rules,
      collects_keeps _ _ c.load-word.result _ p.0 _ some_ low (c.load-word.ensures.2 p.0 p.1 p.2).0,
    )

pub returns-then-word-ne-DONE-clause-none : goal.returns-then-word-ne-DONE-clause-none
returns-then-word-ne-DONE-clause-none c = λ job d is.
    let read = c.load-word.ensures.2 job d is in (
      (λ gone. let g = read.1 gone in
          no_word c.load-word.result g.0 g.1 c.if-word-ne-READY.true c.if-word-ne-DONE.true),
      (noted_by d c.load-word.result, refl, refl, read.0),
    )
  where
    no_word : (r : ℕ) → 0 < r → r < 3 → r ≢ 1 → r ≢ 2 → ⊥
    no_word r a b x y = omega arith

pub returns-then-found-word-clause-none : goal.returns-then-found-word-clause-none
returns-then-found-word-clause-none c = λ job d is.
    let read = c.load-word.ensures.2 job d is in
    let tried = c.compare_exchange-found.ensures.2 job _ read.0 in (
      (λ gone. c.if-found-word.true (tried.2 (noted_all d c.load-word.result gone))),
      (noted_by d c.load-word.result, refl, refl, tried.1 c.if-found-word.true ∙ read.0),
    )

pub exchange-lay-requires : goal.exchange-lay-requires
exchange-lay-requires c =
    let p = c.requires.posted in
    let got = (c.compare_exchange-found.ensures.2 p.0 _ (c.load-word.ensures.2 p.0 p.1 p.2).0).0
    c.if-found-word.false in
    (c.compare_exchange-found.ensures.0 ∙ (c.load-word.ensures.0 ∙ c.requires.seat), (Some got.0, in_front _ _ _ got.2))

pub returns-clause-some : goal.returns-clause-some
returns-clause-some c = λ job d is.
    let got = (c.compare_exchange-found.ensures.2 job _ (c.load-word.ensures.2 job d is).0).0 c.if-found-word.false in
    let lay : c.exchange-lay.result ≡ Some got.0 = found_in _ _ _ _ got.2 c.exchange-lay.ensures.2 in
    let back : got.0 ≡ c.in-Some.back = cc in
    (subst (λ (b : Back). job_in b ≡ job) back got.1, put_in _ _ _ _ None got.2 c.exchange-lay.ensures.3)

pub unreachable-requires : goal.unreachable-requires
unreachable-requires c =
    let p = c.requires.posted in
    let got = (c.compare_exchange-found.ensures.2 p.0 _ (c.load-word.ensures.2 p.0 p.1 p.2).0).0
    c.if-found-word.false in
    c.in_default.not-Some got.0 (found_in _ _ _ _ got.2 c.exchange-lay.ensures.2)
