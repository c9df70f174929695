use Rattle.std.proofs.Common.{◌≡◌, ◌++◌, ℕ, List, drop}
use Rattle.std.specs.List.{AllByRecursion, flat_map}
use Rattle.xdr.specs.Item.{spelling}
use Rattle.authenticator.specs.declared.member.LogVersion.TheVariants.{Two}
use Rattle.evidence_spec.specs.secure_log.LogEntries.Words.{MaySkip}
use Rattle.evidence_spec.specs.Showing.{link_item, link_value, numbered}
use Rattle.evidence_showings.proofs.write.add_each_worded.Given as goal

abbrev pub invariant-loop-place : goal.invariant-loop-place
invariant-loop-place l = record {
  skips : AllByRecursion (MaySkip Two) (numbered l.number (drop l.place l.links));
  text : (front : List ℕ) × ((l.out.items ≡ l.initial.out.items ++ front)
      × (flat_map (λ k. spelling (link_item Two) (link_value Two k)) (numbered l.before l.links)
      ≡ front ++ flat_map (λ k. spelling (link_item Two) (link_value Two k)) (numbered l.number (drop l.place l.links))));
}
