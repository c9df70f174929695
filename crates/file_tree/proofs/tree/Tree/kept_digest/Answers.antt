use Rattle.std.proofs.Common.{Bor, ◌≡◌, List, ℕ, Option, Some, None, is_none, is_some, sym, ap, ◌∙◌}
use Rattle.std.specs.Prelude.{◌&&◌}
use Rattle.std.specs.Option.{option_copied}
use Rattle.nfs_spec.specs.fs_spec.Files.{file_at}
use Rattle.file_tree.proofs.MissingDigests.{missing_is}
use Rattle.file_tree.proofs.tree.Tree.kept_digest.Goals as goal

same_none : (o : Option (Bor (List ℕ))) (d : Option (List ℕ)) → option_copied o ≡ d → is_none d ≡ is_none o
same_none None d is = ap is_none (sym is)
same_none (Some b) d is = ap is_none (sym is)

pub returns-clause-missing : goal.returns-clause-missing
returns-clause-missing c =
    rw (← c.self.view_is) (missing_is c.self.inside.table c.self.inside.digests c.args.number
    ∙ ap (λ b. is_some (file_at c.self.inside.table c.args.number) && b)
    (same_none c.get.result _ c.get.ensures))
