use Rattle.std.proofs.Common.{◌≡◌, ◌≤◌, ◌-◌, ◌∙◌, ap, arith, length, map, rules, subst, sym}
use Rattle.secure_log.proofs.Gaps.{length-logged}
use Rattle.evidence_spec.specs.secure_log.declared.segment.TheConstants.{MAX_ENTRIES}
use Rattle.evidence_spec.specs.secure_log.LogEntries.Words.{logged}
use Rattle.evidence_spec.specs.Showing.{numbered, shown_logged}
use Rattle.evidence_showings.specs.Showings.{HasText}
use Rattle.evidence_showings.proofs.Entries.{entries_follow, entries_links, entries_text}
use Rattle.evidence_showings.proofs.showing.Showing.of_entries.Goals as goal

-- its links are of the entries, which are few
pub invariant_of-result : goal.invariant_of-result
invariant_of-result c =
    let ls = logged c.args.skips.now c.args.entries.now in
    let few : length ls ≤ MAX_ENTRIES =
    omega (arith, length-logged c.args.skips.now c.args.entries.now, c.requires) in
    let hash : length c.args.opening.now ≡ 32 = search rules in
    subst (λ links. HasText (record {
      node = c.in_ok-closing.closing.node;
      first = c.get.result;
      opening = c.args.opening.now;
      links = links;
      closing = c.in_ok-closing.closing;
    })) (sym c.in_ok-links.ensures)
    (entries_text c.in_ok-closing.closing.node c.get.result c.args.opening.now ls c.in_ok-closing.closing
    c.in_ok-closing.ensures.fits.0 (omega (arith, c.get.ensures.below)) hash few c.in_ok-closing.ensures.fits)

pub returns-clause-links : goal.returns-clause-links
returns-clause-links c =
    let ls = logged c.args.skips.now c.args.entries.now in
    ap (λ links. numbered (c.get.result - 1) links) c.in_ok-links.ensures
    ∙ ap (λ n. numbered (n - 1) (map shown_logged ls)) c.get.ensures.value
    ∙ entries_links (c.args.first - 1) ls

pub returns-clause-words : goal.returns-clause-words
returns-clause-words c = λ v skips. entries_follow v _ skips
