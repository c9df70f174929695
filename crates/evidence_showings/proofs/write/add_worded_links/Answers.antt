use Rattle.std.proofs.Common.{◌++◌, ◌∙◌, ap, sym}
use Rattle.xdr.specs.Item.{number_spelling}
use Rattle.authenticator.specs.declared.member.LogVersion.TheVariants.{Two}
use Rattle.evidence_spec.specs.secure_log.declared.segment.TheConstants.{MAX_ENTRIES}
use Rattle.evidence_spec.proofs.secure_log.Entries.{adds_counted}
use Rattle.evidence_spec.proofs.Gaps.{length-shown}
use Rattle.evidence_spec.specs.Showing.{link_item, link_value, numbered}
use Rattle.evidence_showings.proofs.write.add_worded_links.Goals as goal

-- the links stand after their count
pub returns : goal.returns
returns c =
    adds_counted (link_item Two) (link_value Two) MAX_ENTRIES (numbered c.args.before c.args.links.now)
    c.args.out.now.items _ _ c.add_each_worded.result
    (c.in_ok-put_u32.ensures.writes ∙ ap (λ n. c.args.out.now.items ++ number_spelling 4 n)
    (sym (length-shown c.args.before c.args.links.now))) c.add_each_worded.ensures
