use Rattle.std.proofs.Common.{◌∙◌, ap, subst, sym}
use Rattle.authenticator.specs.declared.member.LogVersion.TheVariants.{One}
use Rattle.evidence_spec.specs.Base.{BaseParts, begun_value}
use Rattle.evidence_spec.specs.Showing.{ShowingParts}
use Rattle.evidence_showings.specs.Bases.{PlainBaseParts, plain_base_value}
use Rattle.evidence_showings.specs.Showings.{SaysNoMore}
use Rattle.evidence_showings.proofs.Texts.{plain_base_back, plain_no_more}
use Rattle.evidence_showings.proofs.base_read.PlainBase.into_base.Goals as goal

-- links that skip nothing say what stood in the text
pub returns-clause-value : goal.returns-clause-value
returns-clause-value c =
    let own : PlainBaseParts = record {
      showing = c.self.inside.showing;
      at = c.self.inside.at;
      state = c.self.inside.state.items;
    } in
    ap (begun_value One) c.of_parts.ensures
    ∙ ap (λ (s : ShowingParts). begun_value One (record {
      log_version = One;
      showing = s;
      at = own.at;
      state = own.state;
    })) c.in_ok-showing.ensures
    ∙ plain_base_back own
    ∙ ap plain_base_value c.self.view_is

pub returns-clause-written : goal.returns-clause-written
returns-clause-written c = subst (λ (b : BaseParts). SaysNoMore One b.showing) (sym c.of_parts.ensures)
    (subst (SaysNoMore One) (sym c.in_ok-showing.ensures) (plain_no_more c.self.inside.showing.links))
