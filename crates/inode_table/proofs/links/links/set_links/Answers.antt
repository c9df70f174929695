use Rattle.std.proofs.Common.{Option, Some, None, subst, refl}
use Rattle.std.specs.Prelude.{IsSome, MatchOption}
use Rattle.tree_rules.specs.FileRules.Rules.{AreRising}
use Rattle.tree_rules.proofs.OfFileRules.Decided.{tree_files, tree_known}
use Rattle.tree_rules.specs.Listed.{files_in}
use Rattle.tree_rules.proofs.Seen.{same_numbers}
use Rattle.inode_table.proofs.links.links.set_links.Goals as goal

-- what answers where there may be none, but is not none, is there
some_of : {X : Type 0} (P : Type 0) (Q : X → Type 0) (o : Option X) → MatchOption o (P → ⊥) Q → P → IsSome o
some_of P Q None m p = absurd (m p)
some_of P Q (Some x) m p = refl

pub unwrap-counts-requires : goal.unwrap-counts-requires
unwrap-counts-requires c =
    let es = files_in c.args.inodes.now in
    some_of _ _ c.in_ok-count_names.field-0 c.in_ok-count_names.ensures
    (tree_known c.requires.tree.0 c.requires.tree.1 es
    (tree_files c.requires.tree.0 c.requires.tree.1 es
    (subst AreRising (same_numbers c.args.inodes.now) c.requires.rising) c.requires.tree.2)
    c.requires.tree.2)
