use Rattle.std.proofs.Common.{rules, ℕ, ap, ◌∙◌, ◌==◌}
use Rattle.std.specs.Prelude.{filter, not}
use Rattle.std.proofs.lemmas.Fn.{filter_same}
use Rattle.assurance.proofs.assured.Assurance.take.Goals as goal

-- what was taken waits no more
pub returns : goal.returns
returns c = λ h s. record {
  waits = filter_same _ (λ (m : ℕ). not (m == c.args.number)) _ (λ x b f' k. search rules) _ _ c.retain.ensures.filtered
      ∙ ap (filter (λ (m : ℕ). not (m == c.args.number))) s.waits;
  out = s.out;
  last = s.last;
}
