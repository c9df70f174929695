use Rattle.std.proofs.Common.{◌≡◌, Ok, rules, arith}
use Rattle.xdr.specs.Reading.{read_at}
use Rattle.authenticator.specs.declared.member.LogVersion.TheVariants.{Two}
use Rattle.secure_log.specs.Versioned.{WordedParts, worded_value}
use Rattle.evidence_showings.specs.evidence_spec.Evidence.{MAX_AUDITED, replay_item}
use Rattle.secure_log.proofs.VersionedTexts.{words_fit}
use Rattle.challenge.proofs.read.take_worded_log.Goals as goal

-- what was taken has spellings
pub new-requires : goal.new-requires
new-requires c =
    let w : WordedParts = record {
      node = c.in_ok-node.node;
      before = c.in_ok-before.before;
      opening = c.in_ok-opening.opening;
      words = c.in_ok-words.words.items;
      entries = c.in_ok-words.entries.items;
      closing = c.in_ok-closing.closing;
    } in
    let whole : read_at (replay_item Two) c.args.source.now ≡ Ok (worded_value w, c.take_authenticator.new.source) = search rules in (
      omega arith,
      (
        c.in_ok-words.ensures.count,
        words_fit MAX_AUDITED c.args.source.now c.take_authenticator.new.source w (rw c.rest.ensures at c.are_bytes.ensures) whole,
      ),
    )
