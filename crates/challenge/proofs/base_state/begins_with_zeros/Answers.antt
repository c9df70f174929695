use Rattle.std.proofs.Common.{◌≡◌, ◌∙◌, ℕ, List, None, Option, Some, refl, sym}
use Rattle.std.specs.Prelude.{◌↔◌}
use Rattle.secure_log.specs.LogEntries.Chain.{zeros}
use Rattle.secure_log.specs.Marks.{mark_in}
use Rattle.evidence_showings.specs.evidence_spec.Showing.{Shows}
use Rattle.evidence_showings.proofs.Marks.{some_same}
use Rattle.challenge.proofs.base_state.begins_with_zeros.Goals as goal

pub returns-in-Some : goal.returns-in-Some
unfolding zeros
returns-in-Some c =
    let s = c.args.base.now.showing in
    let shown : (mark : List ℕ) → (Some (mark_in c.in-Some.mark) ≡ Some mark) ↔ Shows s 0 mark =
    (rw (c.showing.ensures, c.log_version.ensures) at c.in-Some.ensures.exact) c.requires.first c.requires.skips in (
      (λ t mark there. sym (some_same (mark_in c.in-Some.mark) mark ((shown mark).1 there)) ∙ c.is_same.ensures.0 t),
      (λ each. c.is_same.ensures.1 (each (mark_in c.in-Some.mark) ((shown (mark_in c.in-Some.mark)).0 refl))),
    )

pub returns-in-None : goal.returns-in-None
returns-in-None c =
    let s = c.args.base.now.showing in
    let shown : (mark : List ℕ) → (◌≡◌ {A = Option (List ℕ)} None (Some mark)) ↔ Shows s 0 mark =
    (rw (c.showing.ensures, c.log_version.ensures) at c.in-None.ensures.exact) c.requires.first c.requires.skips in (
      (λ t mark there. let none : ◌≡◌ {A = Option (List ℕ)} None (Some mark) = (shown mark).1 there in absurd cc),
      (λ each. refl),
    )
