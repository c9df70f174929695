use Rattle.std.proofs.Common.{◌+◌, arith, subst, sym}
use Rattle.xdr.specs.Item.{Fits}
use Rattle.authenticator.specs.declared.member.LogVersion.TheVariants.{Two}
use Rattle.evidence_spec.specs.Showing.{showing_item, showing_value}
use Rattle.evidence_showings.proofs.Words.{text_of_words}
use Rattle.evidence_showings.proofs.showing.Showing.of_words.Goals as goal

-- it has the text that it was read from
pub invariant_of-result : goal.invariant_of-result
invariant_of-result c =
    text_of_words _ (omega (arith, c.get.ensures.below))
    (subst (λ n. Fits (showing_item Two) (showing_value Two (record {
      node = c.args.node;
      first = n + 1;
      opening = c.args.opening;
      links = c.args.links.items;
      closing = c.args.closing;
    }))) (sym c.get.ensures.value) c.requires)
