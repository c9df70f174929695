use Rattle.std.proofs.Common.{◌≡◌, Ok, map, rules, arith}
use Rattle.xdr.specs.Item.{Value}
use Rattle.xdr.specs.Reading.{read_at}
use Rattle.authenticator.specs.Signed.{authenticator_value}
use Rattle.secure_log.specs.LogEntries.Entry.{entry_value}
use Rattle.secure_log.specs.Segment.{SegmentParts, bounded_item, segment_value}
use Rattle.secure_log.proofs.Entries.{read_fits}
use Rattle.secure_log.proofs.VersionedTexts.{plain_text}
use Rattle.evidence_showings.specs.evidence_spec.Evidence.{MAX_AUDITED}
use Rattle.challenge.proofs.read.take_log.Goals as goal

-- what was taken has spellings
pub plain-requires : goal.plain-requires
plain-requires c =
    let v : Value (bounded_item MAX_AUDITED) = (
      c.in_ok-node.node,
      (
        c.in_ok-first.first,
        (
          c.in_ok-opening.opening,
          (map entry_value c.in_ok-entries.entries.items, authenticator_value c.in_ok-closing.closing),
        ),
      ),
    ) in
    let whole : read_at (bounded_item MAX_AUDITED) c.args.source.now ≡ Ok (v, c.take_authenticator.new.source) = search rules in
    (omega arith, read_fits MAX_AUDITED c.args.source.now c.take_authenticator.new.source _ (rw c.rest.ensures at c.are_bytes.ensures) whole)

-- and is the text of a log of version 1
pub returns-clause-text : goal.returns-clause-text
returns-clause-text c =
    let s : SegmentParts = record {
      node = c.in_ok-node.node;
      first = c.in_ok-first.first;
      opening = c.in_ok-opening.opening;
      entries = c.in_ok-entries.entries.items;
      closing = c.in_ok-closing.closing;
    } in
    let whole : read_at (bounded_item MAX_AUDITED) c.args.source.now ≡ Ok (segment_value s, c.take_authenticator.new.source) = search rules in
    rw (c.plain.ensures, plain_text s) whole
