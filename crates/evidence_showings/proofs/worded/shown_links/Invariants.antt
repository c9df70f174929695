use Rattle.std.proofs.Common.{◌≡◌, map, take, drop}
use Rattle.authenticator.specs.declared.member.LogVersion.TheVariants.{Two}
use Rattle.evidence_spec.specs.secure_log.LogEntries.Chain.{last_number}
use Rattle.evidence_spec.specs.secure_log.LogEntries.Words.{words_follow}
use Rattle.evidence_spec.specs.Showing.{link_value, numbered}
use Rattle.evidence_showings.specs.Worded.{worded_link_value, words_in}
use Rattle.evidence_showings.proofs.worded.shown_links.Given as goal

abbrev pub invariant-loop-place : goal.invariant-loop-place
invariant-loop-place l = record {
  words : words_follow l.fn.before (words_in l.links) ≡ words_follow l.number (words_in (drop l.place l.links));
  last : last_number l.fn.before (numbered l.fn.before l.shown.items) ≡ l.number;
  same : map (link_value Two) (numbered l.fn.before l.shown.items) ≡ map worded_link_value (take l.place l.links);
}
