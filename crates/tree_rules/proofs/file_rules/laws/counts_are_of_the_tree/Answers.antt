use Rattle.std.proofs.Common.{sym, ◌∙◌}
use Rattle.tree_rules.proofs.OfFileRules.Listed.{names_listed}
use Rattle.tree_rules.proofs.OfFileRules.Ways.{directory_above}
use Rattle.tree_rules.proofs.file_rules.laws.counts_are_of_the_tree.Goals as goal

pub returns-clause-names : goal.returns-clause-names
returns-clause-names c =
    λ fsid next es each names above counts k n f at. counts.counted k n f at
    ∙ sym (names_listed fsid next es each.rising n)

pub returns-clause-parent : goal.returns-clause-parent
returns-clause-parent c = directory_above
