use Rattle.std.proofs.Common.{ap, length, set, ◌∙◌}
use Rattle.std.specs.Prelude.{Option}
use Rattle.authenticator.specs.declared.authenticator.Authenticator.{Authenticator}
use Rattle.watching.proofs.OfShown.{kept_shown, put_shown}
use Rattle.watching.proofs.shown.note_shown.Goals as goal

pub returns-then-members-place : goal.returns-then-members-place
returns-then-members-place c =
    let (same, is) = c.loop-place.invariant in
    ap (λ (x : Option Authenticator). set c.loop-place.shown c.loop-place.place x) c.put_later.ensures
    ∙ (put_shown _ _ _ _ _ _ c.loop-place-test.true (ap length same ∙ c.requires) c.if-members-place.true ∙ is)

pub loop-place-preserved : goal.loop-place-preserved
loop-place-preserved c =
    let (same, is) = c.loop-place.invariant in (
      same,
      kept_shown _ _ _ _ _ c.loop-place-test.true (ap length same ∙ c.requires) c.if-members-place.false ∙ is,
    )
