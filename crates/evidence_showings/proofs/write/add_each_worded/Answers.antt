use Rattle.std.proofs.Common.{◌≡◌, ◌+◌, ◌++◌, ◌<◌, ◌∙◌, ℕ, List, ap, append_assoc, arith, drop, length, rules}
use Rattle.std.proofs.Common.{append-nil, subst, sym}
use Rattle.std.proofs.lemmas.List.{drop_all}
use Rattle.std.specs.List.{AllByRecursion, flat_map}
use Rattle.xdr.specs.Item.{spelling}
use Rattle.authenticator.specs.declared.member.LogVersion.TheVariants.{Two}
use Rattle.evidence_spec.specs.secure_log.LogEntries.Words.{MaySkip}
use Rattle.evidence_spec.specs.Showing.{ShownLink, link_item, link_value, numbered}
use Rattle.evidence_showings.specs.Showings.{numbered_link}
use Rattle.evidence_showings.proofs.Words.{head_is}
use Rattle.evidence_showings.proofs.Written.{refused_after}
use Rattle.evidence_showings.proofs.write.add_each_worded.Goals as goal

-- what is written is the text of one link more
pub loop-place-preserved : goal.loop-place-preserved
loop-place-preserved c =
    let there : c.loop-place.place < length c.args.links.now = search rules in
    let x = c.index-links-place.result in
    let here = head_is c.args.links.now c.loop-place.place x there c.index-links-place.is in
    let next : c.loop-place.number + (1 + c.from.result) ≡ c.loop-place.number + 1 + x.skipped =
    omega (arith, c.from.ensures, c.skipped.ensures) in
    let skips = subst (λ ks. AllByRecursion (MaySkip Two) (numbered c.loop-place.number ks)) here
    c.loop-place.invariant.skips in
    let rest = drop (c.loop-place.place + 1) c.args.links.now in
    let sp : ℕ → List ℕ = λ k. spelling (link_item Two) (link_value Two (numbered_link x k)) in
    let more : ℕ → List ℕ = λ k. flat_map (λ l. spelling (link_item Two) (link_value Two l)) (numbered k rest) in
    let front = c.loop-place.invariant.text.0 in
    let k = c.loop-place.number + (1 + c.from.result) in
    record {
      skips = subst (λ n. AllByRecursion (MaySkip Two) (numbered n rest)) (sym next) skips.1;
      text = (
        front ++ sp k,
        (
          c.in_ok-add_worded_link.ensures ∙ ap (λ t. t ++ sp k) c.loop-place.invariant.text.1.0
              ∙ append_assoc c.args.out.now.items front (sp k),
          c.loop-place.invariant.text.1.1
              ∙ ap (λ ks. front ++ flat_map (λ l. spelling (link_item Two) (link_value Two l))
              (numbered c.loop-place.number ks)) here
              ∙ ap (λ n. front ++ (sp n ++ more n)) (sym next)
              ∙ sym (append_assoc front (sp k) (more k)),
        ),
      );
    }

-- what the link skips, and its number, may stand in a word
pub add_worded_link-requires : goal.add_worded_link-requires
add_worded_link-requires c =
    let there : c.loop-place.place < length c.args.links.now = search rules in
    let x = c.index-links-place.result in
    let here = head_is c.args.links.now c.loop-place.place x there c.index-links-place.is in
    let skips = subst (λ ks. AllByRecursion (MaySkip Two) (numbered c.loop-place.number ks)) here
    c.loop-place.invariant.skips in
    (skips.0.0, omega (arith, skips.0.1, c.from.ensures, c.skipped.ensures))

-- the links before the one that was refused stand, and a part of that
pub returns-in_err-add_worded_link : goal.returns-in_err-add_worded_link
returns-in_err-add_worded_link c =
    refused_after _ c.args.out.now.items c.loop-place.invariant.text.0 c.loop-place.out.items _
    c.from_residual.result c.from_residual.ensures.0 c.loop-place.invariant.text.1.0 c.in_err-add_worded_link.ensures

-- no link is left
pub returns : goal.returns
returns c =
    let front = c.loop-place.invariant.text.0 in
    let more : List ShownLink → List ℕ = λ ks.
    flat_map (λ l. spelling (link_item Two) (link_value Two l)) (numbered c.loop-place.number ks) in
    c.loop-place.invariant.text.1.0
    ∙ ap (λ t. c.args.out.now.items ++ t) (sym (c.loop-place.invariant.text.1.1
    ∙ ap (λ ks. front ++ more ks) (drop_all c.loop-place.place c.args.links.now c.loop-place-test.false)
    ∙ append-nil front))
