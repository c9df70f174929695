use Rattle.tree_rules.proofs.OfFileRules.Ways.{root_place}
use Rattle.tree_rules.proofs.OfFileRules.Decided.{rules_suffice, tree_known, tree_names, tree_leads}
use Rattle.tree_rules.proofs.file_rules.laws.rules_make_a_tree.Goals as goal

pub returns-clause-rules : goal.returns-clause-rules
returns-clause-rules c = λ fsid next es each names above counts steps more. (
  λ r. rules_suffice fsid next es each names above counts r.root.0 r.root.1 r.known r.named steps r.below,
  λ tree.
      let root = root_place fsid next es each tree in
      record {
        root = (root.0, root.1);
        known = tree_known fsid next es each tree;
        named = tree_names fsid next es each names above counts tree;
        below = tree_leads fsid next es each names above counts tree steps more;
      },
)

pub returns-clause-known : goal.returns-clause-known
returns-clause-known c = tree_known
