use Rattle.std.proofs.Common.{◌≡◌, ◌∙◌, ap, map, subst, sym}
use Rattle.authenticator.specs.declared.member.LogVersion.TheVariants.{One}
use Rattle.xdr.specs.Item.{Fits}
use Rattle.evidence_spec.specs.Showing.{showing_item}
use Rattle.evidence_showings.specs.Plain.{PlainParts, plain_link, plain_showing}
use Rattle.evidence_showings.specs.Showings.{HasText}
use Rattle.evidence_showings.proofs.Texts.{value_back}
use Rattle.evidence_showings.proofs.read.PlainShowing.into_showing.Goals as goal

-- links that skip nothing have the text that was read
pub of_plain-requires : goal.of_plain-requires
of_plain-requires c =
    let p : PlainParts = record {
      node = c.self.inside.node;
      first = c.self.inside.first;
      opening = c.self.inside.opening;
      links = c.self.inside.links.items;
      closing = c.self.inside.closing;
    } in
    let text : HasText (plain_showing p) = subst (Fits (showing_item One)) (sym (value_back p)) c.self.invariant in
    let same : c.in_ok-links.links.items ≡ map plain_link p.links =
    c.in_ok-links.ensures ∙ ap (map plain_link) c.deref.ensures.value in
    subst (λ ls. HasText (record {
      node = p.node;
      first = p.first;
      opening = p.opening;
      links = ls;
      closing = p.closing;
    })) (sym same) text
