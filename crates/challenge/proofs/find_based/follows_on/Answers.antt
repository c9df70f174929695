use Rattle.std.proofs.Common.{◌≡◌, ℕ, ◌+◌, ◌∙◌, List, None, Option, Some, ap, arith, sym}
use Rattle.std.specs.Prelude.{◌↔◌}
use Rattle.secure_log.specs.Marks.{mark_in}
use Rattle.evidence_showings.specs.evidence_spec.Showing.{Shows}
use Rattle.evidence_showings.proofs.Marks.{some_same}
use Rattle.challenge.proofs.find_based.follows_on.Goals as goal

pub returns-in-Some : goal.returns-in-Some
returns-in-Some c =
    let b = c.args.base.now in
    let s = c.args.log.now in
    let shown : (Some (mark_in c.in-Some.mark) ≡ Some s.opening) ↔ Shows b.showing b.at s.opening =
    (rw (c.showing.ensures, c.log_version.ensures, c.get-3.ensures.value, c.at-2.ensures) at c.in-Some.ensures.exact)
    c.requires.first c.requires.skips s.opening in
    let first : s.first ≡ b.at + 1 =
    omega (
      arith,
      c.if-get.false,
      c.get.ensures.value,
      c.first.ensures,
      c.get-2.ensures.value,
      c.at.ensures,
    ) in (
      (λ t. record {
        first = first;
        opening = shown.0 (ap (λ (h : List ℕ). Some h) (c.is_same.ensures.0 t ∙ c.opening.ensures.opening));
      }),
      (λ f. c.is_same.ensures.1 (some_same (mark_in c.in-Some.mark) s.opening (shown.1 f.opening)
          ∙ sym c.opening.ensures.opening)),
    )

pub returns-in-None : goal.returns-in-None
returns-in-None c =
    let b = c.args.base.now in
    let s = c.args.log.now in
    let shown : (◌≡◌ {A = Option (List ℕ)} None (Some s.opening)) ↔ Shows b.showing b.at s.opening =
    (rw (c.showing.ensures, c.log_version.ensures, c.get-3.ensures.value, c.at-2.ensures) at c.in-None.ensures.exact)
    c.requires.first c.requires.skips s.opening in (
      (λ t. absurd cc),
      (λ f. let none : ◌≡◌ {A = Option (List ℕ)} None (Some s.opening) = shown.1 f.opening in absurd cc),
    )
