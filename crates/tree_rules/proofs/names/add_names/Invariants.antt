use Rattle.std.proofs.Common.{take}
use Rattle.std.specs.List.{All}
use Rattle.tree_rules.specs.Counting.{IsAmong, AddsNames}
use Rattle.tree_rules.proofs.names.add_names.Given as goal

abbrev pub invariant-loop-at : goal.invariant-loop-at
invariant-loop-at l = record {
  adds : AddsNames l.place l.numbers (take l.at l.listing.entries) l.initial.names l.initial.above l.names
      l.above;
  known : All (λ e. IsAmong l.numbers e.1.0) (take l.at l.listing.entries);
}
