use Rattle.std.proofs.Common.{◌<◌, List, ℕ, length, rules}
use Rattle.xdr.specs.Item.{spelling}
use Rattle.authenticator.specs.declared.member.LogVersion.TheVariants.{One}
use Rattle.evidence_spec.specs.Showing.{ShownLink, link_item, link_value}
use Rattle.evidence_showings.specs.Showings.{numbered_link}
use Rattle.evidence_showings.proofs.Written.{all_written, more_written, refused_after}
use Rattle.evidence_showings.proofs.write.add_each.Goals as goal

text : ShownLink → List ℕ
text x = spelling (link_item One) (link_value One (numbered_link x 0))

-- one link more
pub loop-link-preserved : goal.loop-link-preserved
unfolding text
loop-link-preserved c =
    let there : c.loop-link.link-index < length c.args.links.now = search rules in
    more_written text c.args.links.now c.loop-link.link-index c.args.out.now.items c.add_link.new.out.items
    c.link-item.result c.loop-link.out.items there c.link-item.is c.loop-link.invariant
    c.in_ok-add_link.ensures

-- the links before the one that was refused stand, and a part of that
pub returns-in_err-add_link : goal.returns-in_err-add_link
returns-in_err-add_link c =
    refused_after _ c.args.out.now.items _ c.loop-link.out.items _ c.from_residual.result
    c.from_residual.ensures.0 c.loop-link.invariant c.in_err-add_link.ensures

pub returns : goal.returns
unfolding text
returns c =
    all_written text c.args.links.now c.loop-link.link-index c.args.out.now.items c.loop-link.out.items
    c.loop-link-test.false c.loop-link.invariant
