use Rattle.std.proofs.Common.{◌≡◌, map, take}
use Rattle.evidence_showings.specs.Plain.{plain_link}
use Rattle.evidence_showings.proofs.read.shown_links.Given as goal

abbrev pub invariant-loop-link : goal.invariant-loop-link
invariant-loop-link l = l.shown.items ≡ map plain_link (take l.link-index l.links)
